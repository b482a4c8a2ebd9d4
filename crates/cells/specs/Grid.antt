-- The grid of cells of a volume or a block of e voxels (document 01, "The grid of cells"). Cells are named by position.
-- Assumes nothing.
use Rattle.std.specs.Prelude.{List, [], ◌∷◌, ◌++◌, ℕ, zero, suc, ◌+◌, ◌-◌, ◌*◌, ◌/◌, ◌%◌}
use Rattle.cells.specs.Box.{coord, each, stride, volume, index, place}
use Rattle.cells.specs.declared.Axis.{Axis}
use Rattle.cells.specs.declared.Axis.TheVariants.{X, Y, Z}
use Rattle.cells.specs.declared.Triple.{Triple}

-- "The cell grid has 2n−1 places on each axis, counted from 0."
unfoldable pub sides : Triple → Triple
sides e = each (λ a. 2 * coord e a - 1)

unfoldable pub cells : Triple → ℕ
cells e = volume (sides e)

-- 1 where the coordinate of cell p on an axis is odd, and else 0.
unfoldable pub parity : Triple → ℕ → Axis → ℕ
parity e p a = coord (place (sides e) p) a % 2

-- "A cell with k odd coordinates has order 3−k": 3 is a voxel, 2 a face cell, 1 a curve cell, 0 a point cell.
unfoldable pub order : Triple → ℕ → ℕ
order e p = 3 - (parity e p X + parity e p Y + parity e p Z)

-- "Voxel (i,j,k) is cell (2i,2j,2k)": the cell of the voxel at place v of the code list.
unfoldable pub voxel_cell : Triple → ℕ → ℕ
voxel_cell e v = index (sides e) (each (λ a. 2 * coord (place e v) a))

-- The place in the code list of the voxel that cell p is.
unfoldable pub voxel : Triple → ℕ → ℕ
voxel e p = index e (each (λ a. coord (place (sides e) p) a / 2))

-- One step down and one up, where the coordinate is odd.
unfoldable pub along : ℕ → ℕ → ℕ → List ℕ
along zero p step = []
along (suc k) p step = (p - step) ∷ (p + step) ∷ []

-- "The upper neighbours of a cell are its neighbours, one step along an odd axis" (document 003, Definition 1).
unfoldable pub upper_neighbours : Triple → ℕ → List ℕ
upper_neighbours e p = along (parity e p X) p (stride (sides e) X) ++ along (parity e p Y) p (stride (sides e) Y) ++ along (parity e p Z) p (stride (sides e) Z)
