-- The cells that two blocks share.
-- Assumes nothing.
use mathlib.Core.Bool.{◌&&◌, true}
use mathlib.Core.List.Memᴰ
use mathlib.Core.List.{List, Memᴰ, [], ◌∷◌, map}
use mathlib.Core.Logic.{◌⊎◌, inl, inr}
use mathlib.Core.Path.{◌≡◌, ap, subst, sym}
use Prim.Native.Nat.{◌<◌, ℕ}
use native.Mathlib.Omega.{arith}
use lib.Dec.{eqb, ltb}
use borrow.Author.Tests.{eq-eqb, eqb-true, ltb-true}
use Rattle.lists.specs.Lists.{consecutive}
use Rattle.closure.specs.Joined.{Edge, edge}
use Rattle.cells.specs.Grid.{cells}
use Rattle.cutting.specs.Cutting.{Cutting, block_extents, blocks, embed, seam}
use Rattle.joiner.specs.Stages.{products, shared}
use Rattle.lists.proofs.Cases.{and_first, and_second}
use Rattle.lists.proofs.Lists.{consecutive_in, consecutive_out, keep_in, keep_out}

pub products_in : (xs ys : List ℕ) {x y : ℕ} → Memᴰ x xs → Memᴰ y ys → Memᴰ (edge x y) (products xs ys)
unfolding products
products_in [] ys m n = absurd (Memᴰ.not-nil m)
products_in (z ∷ xs) ys {x} {y} m n = go (Memᴰ.cases_cons m) (λ k. products_in xs ys k n)
  where
    go : (x ≡ z) ⊎ Memᴰ x xs → (Memᴰ x xs → Memᴰ (edge x y) (products xs ys)) → Memᴰ (edge x y) (products (z ∷ xs) ys)
    go (inl q) ih = Memᴰ.append_left (products xs ys) (subst (λ (w : ℕ). Memᴰ (edge x y) (map (edge w) ys)) q (Memᴰ.map (edge x) n))
    go (inr k) ih = Memᴰ.append_right (map (edge z) ys) (ih k)

pub products_out : (xs ys : List ℕ) {d : Edge} → Memᴰ d (products xs ys) → Memᴰ d.from xs × Memᴰ d.to ys
unfolding products
products_out [] ys m = absurd (Memᴰ.not-nil m)
products_out (z ∷ xs) ys {d} m = go (Memᴰ.append_cases (map (edge z) ys) m) (λ k. products_out xs ys k)
  where
    go : Memᴰ d (map (edge z) ys) ⊎ Memᴰ d (products xs ys) → (Memᴰ d (products xs ys) → Memᴰ d.from xs × Memᴰ d.to ys)
        → Memᴰ d.from (z ∷ xs) × Memᴰ d.to ys
    go (inl k) ih =
        let r = Memᴰ.of_map (edge z) ys k in
        (Memᴰ.head (ap (λ (x : Edge). x.from) (sym r.2)), subst (λ (x : Edge). Memᴰ x.to ys) r.2 r.1)
    go (inr k) ih = let r = ih k in (Memᴰ.tail r.0, r.1)

-- cells p of block b and q of block c are one cell of the volume
pub record Shares (k : Cutting) (b c p q : ℕ) : Type 0 where
  pub p_in : p < cells (block_extents k b)
  pub q_in : q < cells (block_extents k c)
  pub one_cell : embed k b p ≡ embed k c q

pub shared_in : (k : Cutting) (b c p q : ℕ) → Shares k b c p q → Memᴰ (edge p q) (shared k b c)
unfolding shared
shared_in k b c p q r =
    keep_in (λ d. eqb (embed k b d.from) (embed k c d.to)) (products (consecutive 0 (cells (block_extents k b))) (consecutive 0 (cells (block_extents k c))))
    (products_in _ _ (consecutive_in 0 (cells (block_extents k b)) (omega arith) (omega (arith, r.p_in))) (consecutive_in 0 (cells (block_extents k c)) (omega arith) (omega (arith, r.q_in))))
    (eq-eqb _ _ r.one_cell)

pub shared_out : (k : Cutting) (b c : ℕ) {d : Edge} → Memᴰ d (shared k b c) → Shares k b c d.from d.to
unfolding shared
shared_out k b c {d} m =
    let r = keep_out (λ d. eqb (embed k b d.from) (embed k c d.to)) (products (consecutive 0 (cells (block_extents k b))) (consecutive 0 (cells (block_extents k c)))) m in
    let s = products_out (consecutive 0 (cells (block_extents k b))) (consecutive 0 (cells (block_extents k c))) r.0 in
    record { p_in = omega (arith, consecutive_out 0 (cells (block_extents k b)) s.0); q_in = omega (arith, consecutive_out 0 (cells (block_extents k c)) s.1); one_cell = eqb-true _ _ r.1 }

-- the blocks of a seam
pub seam_listed : (k : Cutting) (b c : ℕ) → seam k b c ≡ true → (b < blocks k) × (c < blocks k)
unfolding seam
seam_listed k b c z =
    let w = and_first (ltb b (blocks k) && ltb c (blocks k)) _ z in
    (ltb-true _ _ (and_first (ltb b (blocks k)) (ltb c (blocks k)) w), ltb-true _ _ (and_second (ltb b (blocks k)) (ltb c (blocks k)) w))
