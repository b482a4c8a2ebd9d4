-- The steps of a cell's pattern lead to its upper neighbours.
-- Assumes nothing.
use Prim.Native.Nat.{ℕ, zero, suc, ◌+◌, ◌-◌, ◌/◌, ◌%◌, ◌≤◌, ◌<◌}
use mathlib.Core.Path.{◌≡◌, refl, ap₂}
use mathlib.Core.List.{List, [], ◌∷◌, ◌++◌, map, map-append}
use native.Mathlib.Omega.{arith}
use lib.ListN.{get_or, length, length-append}
use Rattle.cells.specs.Box.{stride}
use Rattle.cells.specs.declared.Axis.TheVariants.{X, Y, Z}
use Rattle.cells.specs.declared.Triple.{Triple}
use Rattle.cells.specs.Grid.{sides, parity, along, upper_neighbours}
use Rattle.cells.specs.Steps.{steps_along, steps_of, step_at, pattern, moved}
use Rattle.cells.proofs.GridLaws.{odd_lt}

-- a property of each entry of a list
abbrev pub AllOf : (ℕ → Type 0) → List ℕ → Type 0
AllOf P [] = Unit {0}
AllOf P (x ∷ xs) = P x × AllOf P xs

module _ (P : ℕ → Type 0) where
  all_get_or : (l : List ℕ) → P 0 → AllOf P l → (k : ℕ) → P (get_or l k 0)
  all_get_or [] z a k = z
  all_get_or (x ∷ l) z a zero = a.0
  all_get_or (x ∷ l) z a (suc k) = all_get_or l z a.1 k

  all_append : (l m : List ℕ) → AllOf P l → AllOf P m → AllOf P (l ++ m)
  all_append [] m a b = b
  all_append (x ∷ l) m a b = (a.0, all_append l m a.1 b)

  all_along : (t s : ℕ) → t < 2 → (t ≡ 1 → P s × P (s + 1)) → AllOf P (steps_along t s)
  all_along zero s h f = tt
  all_along (suc t) s h f = let g = f (omega arith) in (g.0, (g.1, tt))

  -- what holds of both steps along each odd axis holds of every step of a pattern
  pub all_steps_of : (b : ℕ) → (b % 2 ≡ 1 → P 1 × P 2) → (b / 2 % 2 ≡ 1 → P 3 × P 4) → (b / 4 % 2 ≡ 1 → P 5 × P 6) → AllOf P (steps_of b)
  all_steps_of b x y z =
      all_append (steps_along (b % 2) 1 ++ steps_along (b / 2 % 2) 3) (steps_along (b / 4 % 2) 5)
      (all_append (steps_along (b % 2) 1) (steps_along (b / 2 % 2) 3) (all_along (b % 2) 1 (omega arith) x) (all_along (b / 2 % 2) 3 (omega arith) y))
      (all_along (b / 4 % 2) 5 (omega arith) z)

  pub all_steps : (b : ℕ) → P 0 → (b % 2 ≡ 1 → P 1 × P 2) → (b / 2 % 2 ≡ 1 → P 3 × P 4) → (b / 4 % 2 ≡ 1 → P 5 × P 6) → (k : ℕ) → P (step_at b k)
  all_steps b o x y z = all_get_or (steps_of b) o (all_steps_of b x y z)

-- a step is one of 0 to 6
pub step_lt : (b k : ℕ) → step_at b k < 7
step_lt b = all_steps (λ s. s < 7) b (omega arith) (λ _. omega arith) (λ _. omega arith) (λ _. omega arith)

module _ (e : Triple) (p : ℕ) where
  pub bit_x : pattern e p % 2 ≡ parity e p X
  unfolding pattern
  bit_x = omega (arith, odd_lt e p X, odd_lt e p Y, odd_lt e p Z)

  pub bit_y : pattern e p / 2 % 2 ≡ parity e p Y
  unfolding pattern
  bit_y = omega (arith, odd_lt e p X, odd_lt e p Y, odd_lt e p Z)

  pub bit_z : pattern e p / 4 % 2 ≡ parity e p Z
  unfolding pattern
  bit_z = omega (arith, odd_lt e p X, odd_lt e p Y, odd_lt e p Z)

  abbrev w : ℕ
  w = stride (sides e) Y

  abbrev wh : ℕ
  wh = stride (sides e) Z

  on_axis : (k s t : ℕ) → moved w wh p s ≡ p - t → moved w wh p (s + 1) ≡ p + t → along k p t ≡ map (moved w wh p) (steps_along k s)
  unfolding along
  on_axis zero s t d u = refl
  on_axis (suc k) s t d u = rw (d, u)

  -- the upper neighbours, by the steps of the pattern
  pub up_steps : upper_neighbours e p ≡ map (moved w wh p) (steps_of (pattern e p))
  unfolding upper_neighbours moved stride
  up_steps =
      rw (bit_x, bit_y, bit_z, map-append, map-append)
      (ap₂ {C = List ℕ} (λ k l. k ++ l) (ap₂ {C = List ℕ} (λ k l. k ++ l) (on_axis (parity e p X) 1 1 refl refl) (on_axis (parity e p Y) 3 w refl refl)) (on_axis (parity e p Z) 5 wh refl refl))

length-along : (t s : ℕ) → length (steps_along t s) ≤ 2
length-along zero s = omega arith
length-along (suc t) s = omega arith

pub length-steps_of : (b : ℕ) → length (steps_of b) ≤ 6
length-steps_of b =
    simp length-append (omega (arith, length-along (b % 2) 1, length-along (b / 2 % 2) 3, length-along (b / 4 % 2) 5))
