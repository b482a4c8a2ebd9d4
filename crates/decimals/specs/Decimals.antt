-- Numbers in decimal digits, as bytes in ASCII: those of the listing and of a printed layer.
-- Assumes nothing.
use Rattle.std.specs.Prelude.{Bool, cond, ◌&&◌, List, [], ◌∷◌, ◌++◌, ℕ, zero, suc, ◌+◌, ◌/◌, ◌%◌, leb, ltb}

-- One of the bytes 48 to 57.
unfoldable pub digit : ℕ → Bool
digit b = leb 48 b && leb b 57

-- The decimal digits of n, in at most f places.
unfoldable pub decimal_in : ℕ → ℕ → List ℕ
decimal_in zero n = []
decimal_in (suc f) n = cond (ltb n 10) ((48 + n) ∷ []) (decimal_in f (n / 10) ++ ((48 + n % 10) ∷ []))

-- A number of 32 bits has at most ten digits.
unfoldable pub decimal_digits : ℕ → List ℕ
decimal_digits n = decimal_in 10 n
