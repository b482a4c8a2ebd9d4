-- The codes on a line of cells.
-- Assumes nothing.
use Rattle.std.specs.Prelude.{cond, List, ℕ, ◌+◌, ◌/◌, ◌%◌, eqb, get_or}

-- What stands at x of a line of voxels whose codes begin at place v: a code where x is even, and else 0.
unfoldable pub code_on : List ℕ → ℕ → ℕ → ℕ
code_on codes v x = cond (eqb (x % 2) 0) (get_or codes (v + x / 2) 0) 0
