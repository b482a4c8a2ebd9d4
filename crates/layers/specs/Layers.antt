-- "Neighbouring blocks share one voxel layer": the last layer of cells of a seam's lower block and the first of its upper one, row by row.
-- Assumes nothing.
use Rattle.std.specs.Prelude.{cond, List, [], ◌∷◌, ◌++◌, map, ℕ, ◌-◌, eqb}
use Rattle.lists.specs.Lists.{consecutive}
use Rattle.closure.specs.Joined.{Edge, edge}
use Rattle.cells.specs.Box.{triple, coord, index}
use Rattle.cells.specs.declared.Axis.{Axis}
use Rattle.cells.specs.declared.Axis.TheVariants.{X, Y, Z}
use Rattle.cells.specs.declared.Triple.{Triple}
use Rattle.cells.specs.Grid.{sides}

-- The axis of a seam by number (`seam_axis`).
unfoldable pub axis_of : ℕ → Axis
axis_of n = cond (eqb n 1) X (cond (eqb n 2) Y Z)

-- A place across axis a: t along the axis, column u and row v along the two others, in the order of the axes.
abbrev pub across : Axis → ℕ → ℕ → ℕ → Triple
across X t u v = triple t u v
across Y t u v = triple u t v
across Z t u v = triple u v t

-- How many columns and rows a layer of a box of sides s has.
abbrev pub columns_of : Triple → Axis → ℕ
columns_of s X = s.y
columns_of s Y = s.x
columns_of s Z = s.x

abbrev pub rows_of : Triple → Axis → ℕ
rows_of s X = s.z
rows_of s Y = s.z
rows_of s Z = s.y

-- The cell at column u and row v of the last layer of a block of e voxels, and of the first.
unfoldable pub last_at : Triple → Axis → ℕ → ℕ → ℕ
last_at e a u v = index (sides e) (across a (coord (sides e) a - 1) u v)

unfoldable pub first_across : Triple → Axis → ℕ → ℕ → ℕ
first_across e a u v = index (sides e) (across a 0 u v)

-- The layer's cells, each by its positions in the lower block, of e voxels, and in the upper one, of f.
unfoldable pub cell_pair : Triple → Triple → Axis → ℕ → ℕ → Edge
cell_pair e f a u v = edge (last_at e a u v) (first_across f a u v)

unfoldable pub row_pairs : Triple → Triple → Axis → ℕ → List Edge
row_pairs e f a v = map (λ u. cell_pair e f a u v) (consecutive 0 (columns_of (sides e) a))

unfoldable pub pairs_in : Triple → Triple → Axis → List ℕ → List Edge
pairs_in e f a [] = []
pairs_in e f a (v ∷ vs) = row_pairs e f a v ++ pairs_in e f a vs

unfoldable pub layer_pairs : Triple → Triple → Axis → List Edge
layer_pairs e f a = pairs_in e f a (consecutive 0 (rows_of (sides e) a))
