-- Places in a box, numbered x fastest, then y, then z: one arithmetic for voxels, cells and blocks (document 01, "The grid of cells").
-- Assumes nothing.
use Rattle.std.specs.Prelude.{ℕ, ◌+◌, ◌*◌, ◌/◌, ◌%◌}
use Rattle.cells.specs.declared.Axis.{Axis}
use Rattle.cells.specs.declared.Axis.TheVariants.{X, Y, Z}
use Rattle.cells.specs.declared.Triple.{Triple}

abbrev pub triple : ℕ → ℕ → ℕ → Triple
triple a b c = record { x = a; y = b; z = c }

abbrev pub coord : Triple → Axis → ℕ
coord t X = t.x
coord t Y = t.y
coord t Z = t.z

abbrev pub each : (Axis → ℕ) → Triple
each f = triple (f X) (f Y) (f Z)

-- From one place of a box of sides s to the next along an axis.
unfoldable pub stride : Triple → Axis → ℕ
stride s X = 1
stride s Y = s.x
stride s Z = s.x * s.y

-- How many places there are.
unfoldable pub volume : Triple → ℕ
volume s = s.x * s.y * s.z

-- "A position is x + y·(2nx−1) + z·(2nx−1)·(2ny−1)", where s has the sides.
unfoldable pub index : Triple → Triple → ℕ
index s c = c.x + c.y * s.x + c.z * (s.x * s.y)

-- The place at a position.
unfoldable pub place : Triple → ℕ → Triple
place s p = triple (p % s.x) (p / s.x % s.y) (p / (s.x * s.y))
