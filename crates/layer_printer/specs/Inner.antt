-- What the contracts of the inner functions cite.
-- Assumes nothing.
use Rattle.std.specs.Prelude.{cond, List, ℕ, ◌+◌, ◌*◌, ◌%◌, ◌≤◌, eqb, length}

-- The byte of the column that the digits of n end in: the last digit, and a space where no digit is left.
unfoldable pub column_byte : ℕ → ℕ
column_byte n = cond (eqb n 0) 32 (48 + n % 10)

-- A layer of h lines of w cells is there, of a width and a height that a block has.
pub record Whole (w h : ℕ) (layer : List ℕ) : Type 0 where
  pub narrow : w ≤ 127
  pub low : h ≤ 127
  pub there : w * h ≤ length layer
