-- The components of a map: how many there are of each order, where each begins, and its row (document 01, "Numbering one block" and
-- "Cutting and joining"). The map may be one that no labelling left.
-- Assumes nothing.
use mathlib.Core.List.{List, [], ◌∷◌, map, foldr}
use Rattle.std.specs.Prelude.{ℕ, max, eqb, get_or}
use Rattle.cells.specs.declared.Triple.{Triple}
use Rattle.cells.specs.Row.{row_of, row}
use Rattle.cells.specs.Grid.{cells, order}
use Rattle.lists.specs.Lists.{consecutive, keep}

-- The cells of order j.
unfoldable pub of_order : Triple → ℕ → List ℕ
of_order e j = keep (λ p. eqb (order e p) j) (consecutive 0 (cells e))

-- "Its largest number in each order is its count."
unfoldable pub largest : Triple → List ℕ → ℕ → ℕ
largest e m j = foldr max 0 (map (λ p. get_or m p 0) (of_order e j))

-- The cells of component n of order j, in cell order.
unfoldable pub component : Triple → List ℕ → ℕ → ℕ → List ℕ
component e m j n = keep (λ p. eqb (get_or m p 0) n) (of_order e j)

-- The first cell. A number "that no cell has stands at position 0 with a row of zeros".
unfoldable pub first_cell : Triple → List ℕ → ℕ → ℕ → ℕ
first_cell e m j n = get_or (component e m j n) 0 0

unfoldable pub row_at_first : Triple → List ℕ → List ℕ → List ℕ
row_at_first e m [] = row_of []
row_at_first e m (p ∷ ps) = row e m p

-- "A component's row is that of its first cell."
unfoldable pub component_row : Triple → List ℕ → ℕ → ℕ → List ℕ
component_row e m j n = row_at_first e m (component e m j n)
