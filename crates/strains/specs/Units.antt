-- Floats that are whole multiples of 1/1,024, as whole numbers of 1,024ths (document 02, item 1).
-- Assumes nothing.
use Rattle.std.specs.Prelude.{ℕ, suc, ◌*◌, ◌/◌, ◌%◌, Bool, true, false, cond, ◌&&◌, ℤ, pos, negsuc, neg_ℤ, eqb, leb, Float}
use Rattle.std.specs.Float.{nan, inf, fin, binary64}
use Rattle.std.specs.Float.Ieee.{up, down, round}

-- A float "is a whole multiple of 1/1,024, at most" so many 1,024ths "either way"; infinities and what is no number are not.
unfoldable pub is_units : ℕ → Float → Bool
is_units most nan = false
is_units most (inf s) = false
is_units most (fin s m e) = eqb (m * up e * 1024 % down e) 0 && leb (m * up e * 1024) (most * down e)

-- How many 1,024ths a float is, rounded towards 0. "Minus zero counts as zero."
unfoldable pub whole_units : Float → ℤ
whole_units nan = pos 0
whole_units (inf s) = pos 0
whole_units (fin s m e) = cond s (neg_ℤ (pos (m * up e * 1024 / down e))) (pos (m * up e * 1024 / down e))

-- A whole number of 1,024ths as a float: the nearest one, and +0 for none.
unfoldable pub float_of : ℤ → Float
float_of (pos n) = round binary64 false n 1024
float_of (negsuc n) = round binary64 true (suc n) 1024

-- Zero without a sign.
abbrev pub plus_zero : Float
plus_zero = fin false 0 (pos 0)
