-- The upper neighbours of a cell are all different, and their sum gives the cell.
-- Assumes nothing.
use mathlib.Core.Path.{◌≡◌, refl, sym, ap, ◌∙◌}
use mathlib.Core.Logic.{◌⊎◌, inl, inr}
use mathlib.Core.List.{List, ◌++◌}
use Prim.Native.Nat.{ℕ, zero, suc, ◌+◌, ◌-◌, ◌*◌, ◌≤◌, ◌<◌}
use native.Mathlib.Nat.{mul-le-mul, mul-le-mul_left}
use native.Mathlib.Omega.{arith}
use lib.Dec.{eqb}
use borrow.Author.Tests.{eqb-true}
use Rattle.lists.proofs.Cases.{by_test}
use Rattle.cells.specs.Box.{coord, stride}
use Rattle.cells.specs.declared.Axis.{Axis}
use Rattle.cells.specs.declared.Axis.TheVariants.{X, Y, Z}
use Rattle.cells.specs.declared.Triple.{Triple}
use Rattle.cells.specs.Grid.{sides, cells, parity, order, along, upper_neighbours}
use Rattle.cells.specs.Row.{occurrences}
use Rattle.cells.proofs.GridLaws.{inside, low_side, high_side, odd_lt, axis_down}
use Rattle.cells.proofs.RowFacts.{occurrences_append}
use Rattle.maxima.proofs.Sums.{sum_over, sum_both}

-- ---- the neighbours along one axis

-- v is not one of them, or it is, t away from p
abbrev Near : ℕ → ℕ → ℕ → ℕ → Type 0
Near k p t v = (occurrences v (along k p t) ≡ 0) ⊎ ((0 < k) × (occurrences v (along k p t) ≡ 1) × (v - p + (p - v) ≡ t))

near : (k p t v : ℕ) → k < 2 → (0 < k → 0 < t) → (0 < k → t ≤ p) → Near k p t v
unfolding along
near zero p t v h a b = inl refl
near (suc zero) p t v h a b =
    let z : 0 < t = a (omega arith) in
    let l : t ≤ p = b (omega arith) in
    by_test (eqb (p - t) v)
    (λ s. by_test (eqb (p + t) v)
    (λ u. absurd (omega (arith, eqb-true (p - t) v s, eqb-true (p + t) v u)))
    (λ u. inr (omega arith, rw (s, u) refl, omega (arith, eqb-true (p - t) v s))))
    (λ s. by_test (eqb (p + t) v)
    (λ u. inr (omega arith, rw (s, u) refl, omega (arith, eqb-true (p + t) v u)))
    (λ u. inl (rw (s, u) refl)))
near (suc (suc k)) p t v h a b = absurd (omega arith)

along_sum : (k p t : ℕ) → k < 2 → (0 < k → t ≤ p) → sum_over (λ x. x) (along k p t) ≡ 2 * k * p
unfolding along
along_sum zero p t h b = omega arith
along_sum (suc zero) p t h b = let l : t ≤ p = b (omega arith) in omega arith
along_sum (suc (suc k)) p t h b = absurd (omega arith)

-- ---- steps along different axes differ

module _ (e : Triple) (p : ℕ) (h : p < cells e) where
  -- an odd coordinate needs three places
  side_three : (a : Axis) → 0 < parity e p a → 3 ≤ coord (sides e) a
  side_three a o = omega (arith, low_side e p a o, high_side e p a h o)

  side_one : (a : Axis) → 1 ≤ coord (sides e) a
  side_one a = omega (arith, inside e p h a)

  stride_low : (a : Axis) → 0 < stride (sides e) a
  unfolding stride
  stride_low X = omega arith
  stride_low Y = side_one X
  stride_low Z = mul-le-mul {n₁ = 1} {m₁ = 1} (side_one X) (side_one Y)

  x_y : 0 < parity e p X → stride (sides e) X < stride (sides e) Y
  unfolding stride
  x_y o = omega (arith, side_three X o)

  x_z : 0 < parity e p X → stride (sides e) X < stride (sides e) Z
  unfolding stride
  x_z o = omega (arith, mul-le-mul (side_three X o) (side_one Y))

  y_z : 0 < parity e p Y → stride (sides e) Y < stride (sides e) Z
  unfolding stride
  y_z o = omega (arith, mul-le-mul_left (sides e).x (side_three Y o), side_one X)

  -- the neighbours along an axis
  abbrev on : Axis → List ℕ
  on a = along (parity e p a) p (stride (sides e) a)

  on_near : (v : ℕ) (a : Axis) → Near (parity e p a) p (stride (sides e) a) v
  on_near v a = near (parity e p a) p (stride (sides e) a) v (odd_lt e p a) (λ _. stride_low a) (axis_down e p a)

  -- no cell is an upper neighbour twice
  pub up_once : (v : ℕ) → occurrences v (upper_neighbours e p) ≤ 1
  unfolding upper_neighbours
  up_once v =
      rw (occurrences_append v (on X ++ on Y) (on Z), occurrences_append v (on X) (on Y)) (go (on_near v X) (on_near v Y) (on_near v Z))
    where
      has : Axis → ℕ
      has a = occurrences v (on a)

      By : Axis → Type 0
      By a = Near (parity e p a) p (stride (sides e) a) v

      go : By X → By Y → By Z → has X + has Y + has Z ≤ 1
      go (inl a) (inl b) (inl c) = omega arith
      go (inl a) (inl b) (inr c) = omega (arith, c.1)
      go (inl a) (inr b) (inl c) = omega (arith, b.1)
      go (inl a) (inr b) (inr c) = absurd (omega (arith, b.2, c.2, y_z b.0))
      go (inr a) (inl b) (inl c) = omega (arith, a.1)
      go (inr a) (inl b) (inr c) = absurd (omega (arith, a.2, c.2, x_z a.0))
      go (inr a) (inr b) c = absurd (omega (arith, a.2, b.2, x_y a.0))

  sum_on : (a : Axis) → sum_over (λ x. x) (on a) ≡ 2 * parity e p a * p
  sum_on a = along_sum (parity e p a) p (stride (sides e) a) (odd_lt e p a) (axis_down e p a)

  -- they lie two and two about the cell
  up_sum : sum_over (λ x. x) (upper_neighbours e p) ≡ 2 * (parity e p X + parity e p Y + parity e p Z) * p
  unfolding upper_neighbours
  up_sum = rw (sum_both (λ x. x) (on X ++ on Y) (on Z), sum_both (λ x. x) (on X) (on Y), sum_on X, sum_on Y, sum_on Z) (omega arith)

-- two cells of one order below 3 whose upper neighbours have one sum are one cell
cancel : (n p q : ℕ) → 0 < n → n < 4 → 2 * n * p ≡ 2 * n * q → p ≡ q
cancel zero p q h l e = absurd (omega arith)
cancel (suc zero) p q h l e = omega arith
cancel (suc (suc zero)) p q h l e = omega arith
cancel (suc (suc (suc zero))) p q h l e = omega arith
cancel (suc (suc (suc (suc n)))) p q h l e = absurd (omega arith)

pub sum_apart : (e : Triple) (p q : ℕ) → p < cells e → q < cells e → order e p ≡ order e q → order e p < 3
    → sum_over (λ x. x) (upper_neighbours e p) ≡ sum_over (λ x. x) (upper_neighbours e q) → p ≡ q
unfolding order
sum_apart e p q h k o l s =
    let n : ℕ = parity e p X + parity e p Y + parity e p Z in
    let m : n ≡ parity e q X + parity e q Y + parity e q Z
    = omega (arith, odd_lt e p X, odd_lt e p Y, odd_lt e p Z, odd_lt e q X, odd_lt e q Y, odd_lt e q Z) in
    cancel n p q (omega arith) (omega (arith, odd_lt e p X, odd_lt e p Y, odd_lt e p Z)) (sym (up_sum e p h) ∙ s ∙ up_sum e q k ∙ ap (λ (r : ℕ). 2 * r * q) (sym m))
