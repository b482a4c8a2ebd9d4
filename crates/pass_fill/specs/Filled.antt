-- What the codes of a block make of its map.
-- Assumes nothing.
use Rattle.std.specs.Prelude.{◌≡◌, ◌≢◌, List, ℕ, ◌<◌, get_or}
use Rattle.cells.specs.Box.{volume}
use Rattle.cells.specs.declared.Triple.{Triple}
use Rattle.cells.specs.Grid.{cells, order, voxel_cell}

-- "Each code at its voxel."
abbrev pub EachCode : Triple → List ℕ → List ℕ → Type 0
EachCode e codes m = (v : ℕ) → v < volume e → get_or m (voxel_cell e v) 0 ≡ get_or codes v 0

-- "0 at every other cell": the cells of order 3 are the voxels.
abbrev pub OtherZero : Triple → List ℕ → Type 0
OtherZero e m = (p : ℕ) → p < cells e → order e p ≢ 3 → get_or m p 0 ≡ 0
