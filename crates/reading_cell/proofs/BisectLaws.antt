-- The loop's turns are the joiner's bisection, and a point's number is what it finds.
-- Assumes nothing.
use mathlib.Core.Path.{◌≡◌, refl, sym, ap₂, ◌∙◌}
use mathlib.Core.Bool.{cond}
use mathlib.Core.List.{List}
use Prim.Native.Nat.{ℕ, zero, suc, ◌+◌, ◌-◌, ◌/◌, ◌≤◌, ◌<◌}
use native.Mathlib.Omega.{arith}
use lib.Dec.{eqb, ltb}
use lib.ListN.{get_or}
use borrow.Author.Tests.{eqb-false, eq-eqb, ne_eqb}
use Rattle.lists.proofs.Cases.{by_test}
use Rattle.joiner.specs.Outcomes.{bisect}
use Rattle.reading_cell.specs.declared.Span.{Span}
use Rattle.reading_cell.specs.Inner.{halved_of}

module _ (xs : List ℕ) (v : ℕ) where
  -- As many turns as there are places are enough.
  pub enough : (f g lo n : ℕ) → n ≤ f → n ≤ g → bisect f xs lo n v ≡ bisect g xs lo n v
  unfolding bisect
  enough zero zero lo n h k = refl
  enough zero (suc g) lo n h k = rw (eq-eqb n 0 (omega (arith, h)))
  enough (suc f) zero lo n h k = rw (eq-eqb n 0 (omega (arith, k)))
  enough (suc f) (suc g) lo n h k =
      by_test (eqb n 0) (λ t. rw t)
      (λ t.
      let o = eqb-false n 0 t in
      rw t
      (ap₂ {C = ℕ} (λ (x y : ℕ). cond (ltb (get_or xs (lo + n / 2) 0) v) x y)
      (enough f g (suc (lo + n / 2)) (n - suc (n / 2)) (omega (arith, h, o)) (omega (arith, k, o)))
      (enough f g lo (n / 2) (omega (arith, h, o)) (omega (arith, k, o)))))

  -- A turn.
  pub bisect_halved : (s r : Span) → r ≡ halved_of xs s v → (s.size ≡ 0 → ⊥) → bisect s.size xs s.from s.size v ≡ bisect r.size xs r.from r.size v
  unfolding halved_of bisect
  bisect_halved s r e o =
      enough s.size (suc s.size) s.from s.size (omega arith) (omega arith) ∙
      rw (e, ne_eqb s.size 0 o)
      (by_test (ltb (get_or xs (s.from + s.size / 2) 0) v) (λ t. rw t second) (λ t. rw t front))
    where
      second : bisect s.size xs (suc (s.from + s.size / 2)) (s.size - suc (s.size / 2)) v ≡ bisect (s.size - s.size / 2 - 1) xs (s.from + s.size / 2 + 1) (s.size - s.size / 2 - 1) v
      second =
          let a : suc (s.from + s.size / 2) ≡ s.from + s.size / 2 + 1 = omega arith in
          let b : s.size - suc (s.size / 2) ≡ s.size - s.size / 2 - 1 = omega arith in
          rw (a, b) (enough s.size (s.size - s.size / 2 - 1) (s.from + s.size / 2 + 1) (s.size - s.size / 2 - 1) (omega arith) (omega arith))

      front : bisect s.size xs s.from (s.size / 2) v ≡ bisect (s.size / 2) xs s.from (s.size / 2) v
      front = enough s.size (s.size / 2) s.from (s.size / 2) (omega arith) (omega arith)

  -- It leaves fewer places, none of them a new one.
  halved_both : (s r : Span) → r ≡ halved_of xs s v → (s.size ≡ 0 → ⊥) → (r.size < s.size) × (r.from + r.size ≤ s.from + s.size)
  unfolding halved_of
  halved_both s r e o =
      rw e (by_test (ltb (get_or xs (s.from + s.size / 2) 0) v) (λ t. rw t (omega (arith, o), omega (arith, o))) (λ t. rw t (omega (arith, o), omega (arith, o))))

  pub halved_less : (s r : Span) → r ≡ halved_of xs s v → (s.size ≡ 0 → ⊥) → r.size < s.size
  halved_less s r e o = (halved_both s r e o).0

  -- ---- the loop

  module _ (count : ℕ) where
    -- What is left to find in s is what was to find.
    abbrev pub Left : Span → Type 0
    Left s = (s.from + s.size ≤ count) × (bisect count xs 0 count v ≡ bisect s.size xs s.from s.size v)

    pub left_again : (s r : Span) → Left s → r ≡ halved_of xs s v → (s.size ≡ 0 → ⊥) → Left r
    left_again s r l e o = (omega (arith, l.0, (halved_both s r e o).1), l.1 ∙ bisect_halved s r e o)

    pub left_none : (s : Span) → Left s → s.size ≡ 0 → s.from ≡ bisect count xs 0 count v
    unfolding bisect
    left_none s l z = sym (l.1 ∙ rw z)
