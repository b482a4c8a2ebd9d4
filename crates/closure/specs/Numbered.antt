-- Classes numbered 1, 2, 3 by their least id, where only some ids are active.
use Rattle.std.specs.Prelude.{ℕ, zero, suc, Bool, cond, ◌&&◌, eqb}

-- How many numbers below n pass the test.
unfoldable pub count_below : (ℕ → Bool) → ℕ → ℕ
count_below p zero = 0
count_below p (suc n) = cond (p n) (suc (count_below p n)) (count_below p n)

-- q is active, and the least id of its class.
unfoldable pub leader : (ℕ → ℕ) → (ℕ → Bool) → ℕ → Bool
leader f act q = act q && eqb (f q) q

-- The number of the class of x: how many leaders are at most its least id.
unfoldable pub number_by : (ℕ → ℕ) → (ℕ → Bool) → ℕ → ℕ
number_by f act x = count_below (leader f act) (suc (f x))

-- The number at x: 0 where x is not active.
unfoldable pub label : (ℕ → ℕ) → (ℕ → Bool) → ℕ → ℕ
label f act x = cond (act x) (number_by f act x) 0
