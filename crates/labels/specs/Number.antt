-- "Numbering one block" (document 01; document 003, Definition 3) as a computation. `Numbering` says it as a relation, and the law
-- `numbering_labels` that the two agree. A block and the uncut volume are labelled by this same text; the order j is a parameter.
-- Assumes nothing.
use Rattle.std.specs.Prelude.{Bool, cond, ◌&&◌, List, [], ◌∷◌, ◌++◌, map, ℕ, zero, suc, ◌-◌, eqb, get_or}
use Rattle.lists.specs.Lists.{consecutive, tabulate, keep}
use Rattle.closure.specs.Joined.{Edge, edge, rep}
use Rattle.closure.specs.Numbered.{label}
use Rattle.cells.specs.declared.Triple.{Triple}
use Rattle.cells.specs.Grid.{cells, order, upper_neighbours, voxel}
use Rattle.cells.specs.Row.{row, active, same_row}

-- All pairs of entries of a list.
unfoldable pub pairs : List ℕ → List Edge
pairs [] = []
pairs (x ∷ xs) = map (edge x) xs ++ pairs xs

-- Two meeting cells are next to each other on a path: active, and of equal rows.
unfoldable pub alike : Triple → List ℕ → Edge → Bool
alike e m d = active e m d.from && same_row (row e m d.from) (row e m d.to)

-- Such pairs among the upper neighbours of the cells ts.
unfoldable pub edges_at : Triple → List ℕ → List ℕ → List Edge
edges_at e m [] = []
edges_at e m (t ∷ ts) = keep (alike e m) (pairs (upper_neighbours e t)) ++ edges_at e m ts

-- Cells of order j meet at cells of the order below. "Point cells never meet."
unfoldable pub order_below : Triple → ℕ → ℕ → Bool
order_below e j t = eqb (suc (order e t)) j

unfoldable pub edges : Triple → List ℕ → ℕ → List Edge
edges e m j = edges_at e m (keep (order_below e j) (consecutive 0 (cells e)))

-- An active cell of order j.
unfoldable pub active_of : Triple → List ℕ → ℕ → ℕ → Bool
active_of e m j p = eqb (order e p) j && active e m p

-- The number of a cell of order j, where m has the orders above: "numbers run 1, 2, 3 .. by each component's first cell", "inactive cells hold 0".
unfoldable pub number : Triple → List ℕ → ℕ → ℕ → ℕ
number e m j p = label (rep (edges e m j)) (active_of e m j) p

-- The map m with the cells of order j numbered.
unfoldable pub numbered_at : Triple → ℕ → List ℕ → ℕ → ℕ
numbered_at e j m p = cond (eqb (order e p) j) (number e m j p) (get_or m p 0)

unfoldable pub numbered : Triple → ℕ → List ℕ → List ℕ
numbered e j m = tabulate (cells e) (numbered_at e j m)

-- "A voxel cell holds its code." Every other cell holds 0 before any numbering.
unfoldable pub code_at : Triple → List ℕ → ℕ → ℕ
code_at e codes p = cond (eqb (order e p) 3) (get_or codes (voxel e p) 0) 0

-- The map with the d orders below 3 numbered, each over the one above.
unfoldable pub map_down : Triple → List ℕ → ℕ → List ℕ
map_down e codes zero = tabulate (cells e) (code_at e codes)
map_down e codes (suc d) = numbered e (2 - d) (map_down e codes d)

-- The whole map.
unfoldable pub labels : Triple → List ℕ → List ℕ
labels e codes = map_down e codes 3
