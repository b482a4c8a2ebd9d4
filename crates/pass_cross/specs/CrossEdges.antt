-- Components of one order joined where their cells meet and their rows, read through the components of the order above, are equal
-- (document 01, "Crossing"). The order is a parameter: curves meet at point cells, faces at curve cells.
-- Assumes nothing.
use Rattle.std.specs.Prelude.{not, cond, ◌&&◌, ◌≡◌, ℕ, suc, ◌+◌, ◌-◌, ◌≤◌, ◌<◌, eqb, get_or, length}
use mathlib.Core.List.{List, [], ◌∷◌, map, flat_map}
use Rattle.closure.specs.Joined.{Edge, edge, joins}
use Rattle.union_find.specs.Links.{root, Rooted}
use Rattle.cells.specs.declared.Triple.{Triple}
use Rattle.cells.specs.Extents.{Sized}
use Rattle.cells.specs.Grid.{cells, upper_neighbours}
use Rattle.cells.specs.Row.{row_of, same_row}
use Rattle.labels.specs.Number.{pairs}
use Rattle.labels.specs.Components.{of_order, largest}

-- The place of number n, where the block's components stand from `from` on.
unfoldable pub place_of : ℕ → ℕ → ℕ
place_of from n = from + (n - 1)

-- "Read through the faces joined so far": a number as the place of its root + 1, where links have the roots f. 0 stays 0.
unfoldable pub read_through : (ℕ → ℕ) → ℕ → ℕ → ℕ
read_through f from n = cond (eqb n 0) 0 (suc (f (place_of from n)))

-- The numbers at the cells qs, read so.
unfoldable pub numbers_through : List ℕ → (ℕ → ℕ) → ℕ → List ℕ → List ℕ
numbers_through m f from qs = map (λ q. read_through f from (get_or m q 0)) qs

-- .. and their row.
unfoldable pub row_through : List ℕ → (ℕ → ℕ) → ℕ → List ℕ → List ℕ
row_through m f from qs = row_of (numbers_through m f from qs)

-- The edge between the places of numbers x and y, where neither is 0 and their rows r and s are equal.
unfoldable pub edge_if : ℕ → ℕ → ℕ → List ℕ → List ℕ → List Edge
edge_if from x y r s = cond (not (eqb x 0) && (not (eqb y 0) && same_row r s)) (edge (place_of from x) (place_of from y) ∷ []) []

-- .. between the numbers of two cells. The components of the order above stand from `start` on.
unfoldable pub cross_pair : Triple → List ℕ → (ℕ → ℕ) → ℕ → ℕ → Edge → List Edge
cross_pair e m f start from d =
    edge_if from (get_or m d.from 0) (get_or m d.to 0) (row_through m f start (upper_neighbours e d.from)) (row_through m f start (upper_neighbours e d.to))

-- .. between the upper neighbours of cell t, whether t is active or not.
unfoldable pub cross_at : Triple → List ℕ → (ℕ → ℕ) → ℕ → ℕ → ℕ → List Edge
cross_at e m f start from t = flat_map (cross_pair e m f start from) (pairs (upper_neighbours e t))

-- Cells of order j meet at the cells of the order below.
unfoldable pub cross_edges : Triple → List ℕ → ℕ → (ℕ → ℕ) → ℕ → ℕ → List Edge
cross_edges e m j f start from = flat_map (cross_at e m f start from) (of_order e (j - 1))

-- The components of order j that a map numbers have places in a table of so many entries.
pub record Room (e : Triple) (m : List ℕ) (j from size : ℕ) : Type 0 where
  pub most : from + largest e m j ≤ size
  pub fits : size < 4294967296

-- A block's map, and links for its components of order j, which stand from `from` on, and for those of the order above, from `start` on.
pub record Trays (e : Triple) (m : List ℕ) (j : ℕ) (above : List ℕ) (start : ℕ) (links : List ℕ) (from : ℕ) : Type 0 where
  pub sized : Sized 64 e
  pub whole : length m ≡ cells e
  pub low : 1 ≤ j
  pub high : j ≤ 2
  pub upper : Room e m (suc j) start (length above)
  pub own : Room e m j from (length links)

-- The links of the order above keep their roots, and the edges es are joined.
pub record Crossed (above above' links links' : List ℕ) (es : List Edge) : Type 0 where
  pub kept : Rooted above above' (root above)
  pub joined : Rooted links links' (joins (root links) es)
