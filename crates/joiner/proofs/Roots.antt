-- Components made one step after another.
-- Assumes nothing.
use mathlib.Core.Bool.{true}
use mathlib.Core.List.{List}
use mathlib.Core.Logic.{◌↔◌, ◌⊎◌, inl, inr}
use mathlib.Core.Path.{◌∙◌, ◌≡◌, ap, sym}
use Prim.Native.Nat.{◌<◌, ℕ}
use native.Mathlib.Omega.{arith}
use lib.Dec.{T}
use Rattle.union_find.specs.Links.{root, sound_at}
use Rattle.joiner.specs.Outcomes.{Merged, Together, back, joined, same, via}
use Rattle.cells.proofs.GridLaws.{inside}
use Rattle.union_find.proofs.LinkLaws.{root_idem, root_low}

pub together_map : {f : ℕ → ℕ} {R S : ℕ → ℕ → Type 0} → ((x y : ℕ) → R x y → S x y) → {x y : ℕ} → Together f R x y → Together f S x y
together_map h (same e) = same e
together_map h (joined {x = x} {y = y} r) = joined (h x y r)
together_map h (back l) = back (together_map h l)
together_map h (via l m) = via (together_map h l) (together_map h m)

-- whatever R keeps, being together keeps
pub together_keeps : {A : Type 0} {R : ℕ → ℕ → Type 0} (v : ℕ → A) → ((x y : ℕ) → R x y → v x ≡ v y) → {x y : ℕ} → Together (λ z. z) R x y → v x ≡ v y
together_keeps v h (same e) = ap v e
together_keeps v h (joined r) = h _ _ r
together_keeps v h (back l) = sym (together_keeps v h l)
together_keeps v h (via l m) = together_keeps v h l ∙ together_keeps v h m

-- The components of the first n places are those that R makes of single ones, and no link there is longer than its place.
pub record Connected (l : List ℕ) (n : ℕ) (R : ℕ → ℕ → Type 0) : Type 0 where
  pub one : (x y : ℕ) → x < n → y < n → (root l x ≡ root l y) ↔ Together (λ z. z) R x y
  pub sound : (x : ℕ) → x < n → sound_at l x ≡ true

-- one step more
module _ (l m : List ℕ) (n : ℕ) (R S T : ℕ → ℕ → Type 0) (L : Connected l n R) (M : Merged l m S)
    (inside : (x y : ℕ) → S x y → (x < n) × (y < n)) (old : (x y : ℕ) → R x y → T x y) (new : (x y : ℕ) → S x y → T x y) (only : (x y : ℕ) → T x y → R x y ⊎ S x y) where
  -- a place and its root
  to_root : (x : ℕ) → x < n → Together (λ z. z) T x (root l x)
  to_root x h = together_map old ((L.one x (root l x) h (omega (arith, root_low l x))).0 (sym (root_idem l x)))

  roots_together : {x y : ℕ} → Together (root l) S x y → Together (λ z. z) T (root l x) (root l y)
  roots_together (same e) = same e
  roots_together (joined {x = x} {y = y} r) = let b = inside x y r in via (back (to_root x b.0)) (via (joined (new x y r)) (to_root y b.1))
  roots_together (back k) = back (roots_together k)
  roots_together (via j k) = via (roots_together j) (roots_together k)

  -- T's paths are through S and the old roots
  apart_together : (bound : (x y : ℕ) → R x y → (x < n) × (y < n)) → {x y : ℕ} → Together (λ z. z) T x y → Together (root l) S x y
  apart_together bound (same e) = same (ap (root l) e)
  apart_together bound (joined {x = x} {y = y} r) = go (only x y r)
    where
      go : R x y ⊎ S x y → Together (root l) S x y
      go (inl q) = let b = bound x y q in same ((L.one x y b.0 b.1).1 (joined q))
      go (inr q) = joined q
  apart_together bound (back k) = back (apart_together bound k)
  apart_together bound (via j k) = via (apart_together bound j) (apart_together bound k)

  pub connected_more : ((x y : ℕ) → R x y → (x < n) × (y < n)) → Connected m n T
  connected_more bound = record {
    one = λ x y hx hy. (
      (λ e. via (to_root x hx) (via (roots_together ((M.one x y).0 e)) (back (to_root y hy)))),
      (λ k. (M.one x y).1 (apart_together bound k)),
    );
    sound = λ x h. M.sound x (L.sound x h);
  }
