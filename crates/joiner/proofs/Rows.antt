-- Rows of cells under two readings of the cells above them that tell the same cells apart: equal by the one, equal by the other.
-- Assumes nothing.
use mathlib.Core.Bool.{cond, false}
use mathlib.Core.List.Memᴰ
use mathlib.Core.List.{List, Memᴰ, [], ◌++◌, ◌∷◌, map}
use mathlib.Core.Logic.{◌↔◌, ◌⊎◌, inl, inr}
use mathlib.Core.Path.{◌∙◌, ◌≡◌, ap, ap₂, refl, sym}
use Prim.Native.Nat.{◌≤◌, ℕ}
use native.Mathlib.Omega.{arith}
use lib.Dec.{eqb}
use lib.ListN.{length, length-map}
use borrow.Author.Tests.{eqb-false, eqb-true}
use Rattle.cells.specs.Row.{row_of}
use Rattle.lists.proofs.Cases.{picked}
use Rattle.cutting.proofs.RenameLaws.{Tells, row_renamed}

-- the reading g of the first entry that f reads as v
unfoldable found : (ℕ → ℕ) → (ℕ → ℕ) → List ℕ → ℕ → ℕ
found f g [] v = 0
found f g (a ∷ l) v = cond (eqb (f a) v) (g a) (found f g l v)

-- f and g tell the same entries apart, and the same ones from 0
pub record Alike (f g : ℕ → ℕ) (l : List ℕ) : Type 0 where
  pub there : (a b : ℕ) → Memᴰ a l → Memᴰ b l → f a ≡ f b → g a ≡ g b
  pub here : (a b : ℕ) → Memᴰ a l → Memᴰ b l → g a ≡ g b → f a ≡ f b
  pub nought : (a : ℕ) → Memᴰ a l → (f a ≡ 0) ↔ (g a ≡ 0)

found_is : (f g : ℕ → ℕ) (l : List ℕ) (a : ℕ) → Memᴰ a l → ((b : ℕ) → Memᴰ b l → f a ≡ f b → g a ≡ g b) → found f g l (f a) ≡ g a
unfolding found
found_is f g [] a m h = absurd (Memᴰ.not-nil m)
found_is f g (b ∷ l) a m h =
    picked (λ (x : ℕ). x ≡ g a) (eqb (f b) (f a)) (g b) (found f g l (f a))
    (λ t. sym (h b (Memᴰ.head refl) (sym (eqb-true (f b) (f a) t))))
    (λ t. go t (Memᴰ.cases_cons m) (λ k. found_is f g l a k (λ c n. h c (Memᴰ.tail n))))
  where
    go : eqb (f b) (f a) ≡ false → (a ≡ b) ⊎ Memᴰ a l → (Memᴰ a l → found f g l (f a) ≡ g a) → found f g l (f a) ≡ g a
    go t (inl e) ih = absurd (eqb-false (f b) (f a) t (ap f (sym e)))
    go t (inr k) ih = ih k

module _ (f g : ℕ → ℕ) (zs : List ℕ) (A : Alike f g zs) where
  -- from the one reading to the other
  unfoldable turn : ℕ → ℕ
  turn v = cond (eqb v 0) 0 (found f g zs v)

  turn_is : (a : ℕ) → Memᴰ a zs → turn (f a) ≡ g a
  unfolding turn
  turn_is a m =
      picked (λ (x : ℕ). x ≡ g a) (eqb (f a) 0) 0 (found f g zs (f a))
      (λ t. sym ((A.nought a m).0 (eqb-true (f a) 0 t))) (λ t. found_is f g zs a m (λ b n. A.there a b m n))

  turn_tells : (xs : List ℕ) → ((a : ℕ) → Memᴰ a xs → Memᴰ a zs) → Tells turn (map f xs)
  turn_tells xs s = record { nought = nought'; zeros = zeros'; apart = apart' }
    where
      nought' : turn 0 ≡ 0
      nought' = unfold turn in refl

      zeros' : (v : ℕ) → Memᴰ v (map f xs) → turn v ≡ 0 → v ≡ 0
      zeros' v m e = let r = Memᴰ.of_map f xs m in sym r.2 ∙ (A.nought r.0 (s r.0 r.1)).1 (sym (turn_is r.0 (s r.0 r.1)) ∙ ap turn r.2 ∙ e)

      apart' : (v w : ℕ) → Memᴰ v (map f xs) → Memᴰ w (map f xs) → turn v ≡ turn w → v ≡ w
      apart' v w m n e =
          let r = Memᴰ.of_map f xs m in
          let q = Memᴰ.of_map f xs n in
          let mr = s r.0 r.1 in
          let mq = s q.0 q.1 in
          sym r.2 ∙ A.here r.0 q.0 mr mq (sym (turn_is r.0 mr) ∙ ap turn r.2 ∙ e ∙ ap turn (sym q.2) ∙ turn_is q.0 mq) ∙ q.2

  turn_map : (xs : List ℕ) → ((a : ℕ) → Memᴰ a xs → Memᴰ a zs) → map turn (map f xs) ≡ map g xs
  turn_map [] s = refl
  turn_map (x ∷ xs) s = ap₂ {C = List ℕ} (λ a r. a ∷ r) (turn_is x (s x (Memᴰ.head refl))) (turn_map xs (λ a m. s a (Memᴰ.tail m)))

-- rows that are equal by f are equal by g
pub row_turned : (f g : ℕ → ℕ) (xs ys : List ℕ) → Alike f g (xs ++ ys) → length xs ≤ 6 → length ys ≤ 6 → row_of (map f xs) ≡ row_of (map f ys) → row_of (map g xs) ≡ row_of (map g ys)
row_turned f g xs ys A h k e =
    let inx : (a : ℕ) → Memᴰ a xs → Memᴰ a (xs ++ ys) = λ a m. Memᴰ.append_left ys m in
    let iny : (a : ℕ) → Memᴰ a ys → Memᴰ a (xs ++ ys) = λ a m. Memᴰ.append_right xs m in
    ap row_of (sym (turn_map f g (xs ++ ys) A xs inx))
    ∙ row_renamed (turn f g (xs ++ ys) A) (map f xs) (map f ys) (turn_tells f g (xs ++ ys) A xs inx) (turn_tells f g (xs ++ ys) A ys iny)
    (omega (arith, length-map xs f)) (omega (arith, length-map ys f)) e
    ∙ ap row_of (turn_map f g (xs ++ ys) A ys iny)

pub alike_turned : (f g : ℕ → ℕ) (l : List ℕ) → Alike f g l → Alike g f l
alike_turned f g l A = record { there = A.here; here = A.there; nought = λ a m. ((A.nought a m).1, (A.nought a m).0) }
