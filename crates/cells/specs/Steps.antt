-- "The neighbour steps for each pattern of odd and even axes form one fixed table of eight rows" (document 01): the table's rule.
-- A step is 0 for none, 1 and 2 for down and up along x, 3 and 4 along y, 5 and 6 along z.
-- Assumes nothing.
use Rattle.std.specs.Prelude.{ℕ, zero, suc, ◌+◌, ◌-◌, ◌*◌, ◌/◌, ◌%◌, cond, List, [], ◌∷◌, ◌++◌, eqb, get_or}
use Rattle.cells.specs.declared.Axis.TheVariants.{X, Y, Z}
use Rattle.cells.specs.declared.Triple.{Triple}
use Rattle.cells.specs.Grid.{parity}

-- Which axes of cell p are odd: bit 0 for x, bit 1 for y, bit 2 for z.
unfoldable pub pattern : Triple → ℕ → ℕ
pattern e p = parity e p X + 2 * parity e p Y + 4 * parity e p Z

-- Both steps along an axis, where it is odd.
abbrev pub steps_along : ℕ → ℕ → List ℕ
steps_along zero s = []
steps_along (suc b) s = s ∷ (s + 1) ∷ []

-- The steps of a pattern.
abbrev pub steps_of : ℕ → List ℕ
steps_of b = steps_along (b % 2) 1 ++ steps_along (b / 2 % 2) 3 ++ steps_along (b / 4 % 2) 5

-- The k-th of them, and no step past the last.
abbrev pub step_at : ℕ → ℕ → ℕ
step_at b k = get_or (steps_of b) k 0

-- How far a step goes, where a line of the grid has w cells and a layer wh.
abbrev pub step_length : ℕ → ℕ → ℕ → ℕ
step_length w wh s = get_or (0 ∷ 1 ∷ 1 ∷ w ∷ w ∷ wh ∷ wh ∷ []) s 0

-- Where a step leads from position p.
unfoldable pub moved : ℕ → ℕ → ℕ → ℕ → ℕ
moved w wh p s = cond (eqb (s % 2) 0) (p + step_length w wh s) (p - step_length w wh s)
