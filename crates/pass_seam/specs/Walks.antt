-- A layer of cells walked row by row, in two maps at once.
-- Assumes nothing.
use Rattle.std.specs.Prelude.{Bool, false, not, cond, ◌&&◌, ◌||◌, List, [], ◌∷◌, ◌++◌, ◌≡◌, ℕ, zero, suc, ◌+◌, ◌-◌, ◌*◌, ◌%◌, eqb, ltb, get_or}
use Rattle.lists.specs.Lists.{consecutive}
use Rattle.closure.specs.Joined.{Edge, edge}
use Rattle.cells.specs.declared.Axis.{Axis}
use Rattle.cells.specs.declared.Triple.{Triple}
use Rattle.layers.specs.Layers.{last_at, first_across}
use Rattle.pass_seam.specs.declared.Layer.{Layer}

-- The position of column u of row v, and the number there.
unfoldable pub cell_of : Layer → ℕ → ℕ → ℕ
cell_of l u v = l.start + u * l.column + v * l.row

unfoldable pub number_at : List ℕ → Layer → ℕ → ℕ → ℕ
number_at m l u v = get_or m (cell_of l u v) 0

-- "A code differs, or a cell is active in one block only." A cell of the layer is a voxel where column and row are even.
unfoldable pub cells_differ : Bool → ℕ → ℕ → Bool
cells_differ voxel a b = cond voxel (not (eqb a b)) (not (eqb (cond (eqb a 0) 0 1) (cond (eqb b 0) 0 1)))

unfoldable pub differ_at : List ℕ → Layer → List ℕ → Layer → ℕ → ℕ → Bool
differ_at m l n r u v = cells_differ (eqb (u % 2 + v % 2) 0) (number_at m l u v) (number_at n r u v)

-- Among the first u columns of row v, and in the first v rows of so many columns.
unfoldable pub row_differs_to : List ℕ → Layer → List ℕ → Layer → ℕ → ℕ → Bool
row_differs_to m l n r v zero = false
row_differs_to m l n r v (suc u) = row_differs_to m l n r v u || differ_at m l n r u v

unfoldable pub layers_differ_to : List ℕ → Layer → List ℕ → Layer → ℕ → ℕ → Bool
layers_differ_to m l n r columns zero = false
layers_differ_to m l n r columns (suc v) = layers_differ_to m l n r columns v || row_differs_to m l n r v columns

-- Number a of a block whose components stand from `from` on has a place in a table of so many entries.
unfoldable pub has_place : ℕ → ℕ → ℕ → Bool
has_place from a size = not (eqb a 0) && ltb (from + (a - 1)) size

-- The edge at column u of row v: between the places of the two numbers, where the cell has so many odd coordinates and neither number is 0.
unfoldable pub join_at : List ℕ → Layer → List ℕ → Layer → ℕ → ℕ → ℕ → ℕ → ℕ → ℕ → List Edge
join_at m l n r odd from to size v u =
    cond (eqb (u % 2 + v % 2) odd && (has_place from (number_at m l u v) size && has_place to (number_at n r u v) size))
    (edge (from + (number_at m l u v - 1)) (to + (number_at n r u v - 1)) ∷ []) []

unfoldable pub edges_along : (ℕ → List Edge) → List ℕ → List Edge
edges_along f [] = []
edges_along f (u ∷ us) = f u ++ edges_along f us

-- The edges of row v, and of all rows.
unfoldable pub row_edges : List ℕ → Layer → List ℕ → Layer → ℕ → ℕ → ℕ → ℕ → ℕ → ℕ → List Edge
row_edges m l n r odd from to size columns v = edges_along (join_at m l n r odd from to size v) (consecutive 0 columns)

unfoldable pub layer_edges : List ℕ → Layer → List ℕ → Layer → ℕ → ℕ → ℕ → ℕ → ℕ → ℕ → List Edge
layer_edges m l n r odd from to size columns rows = edges_along (row_edges m l n r odd from to size columns) (consecutive 0 rows)

-- l is the last layer across axis a of a block of e voxels, or the first.
pub record LayerOf (e : Triple) (a : Axis) (last : Bool) (l : Layer) : Type 0 where
  pub is : (u v : ℕ) → cell_of l u v ≡ cond last (last_at e a u v) (first_across e a u v)
