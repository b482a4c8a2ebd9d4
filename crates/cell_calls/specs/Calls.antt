-- The two calls of item 12, with what each brings and is answered, and the tests that the service and the day book share.
-- Assumes nothing.
use Rattle.std.specs.Prelude.{Bool, ◌&&◌, List, ℕ, eqb, leb, length}
use Rattle.cells.specs.Grid.{cells}
use Rattle.cutting.specs.Cutting.{Cutting, block_extents}
use Rattle.cell_calls.specs.Cells.{CellLists, all_in_grid, is_needed}

-- Which blocks are needed: the cells and a tray for the blocks. "A call with one of them and its map": the cells, a block, its map and the tray of answers.
pub data CellCall : Type 0 where
  request : CellLists → List ℕ → CellCall
  fill : CellLists → ℕ → List ℕ → List ℕ → CellCall

-- The number of the refusal, 0 for none; how many blocks are needed (0 of a filling); and what the tray holds after the call.
pub record CellAnswer : Type 0 where
  pub refusal : ℕ
  pub many : ℕ
  pub tray : List ℕ

-- An answer by its fields.
abbrev pub cell_answer : ℕ → ℕ → List ℕ → CellAnswer
cell_answer n many tray = record { refusal = n; many = many; tray = tray }

-- The cells of a call, and the tray that it is lent.
abbrev pub cells_of : CellCall → CellLists
cells_of (request l t) = l
cells_of (fill l b m t) = l

abbrev pub tray_of : CellCall → List ℕ
tray_of (request l t) = t
tray_of (fill l b m t) = t

-- 4 denies it: "one cell outside the grid declines the whole list with 4"; of a filling, its block is a needed one: "any other block is 4".
abbrev pub cells_placed : Cutting → CellCall → Bool
cells_placed k (request l t) = all_in_grid k.extents l
cells_placed k (fill l b m t) = all_in_grid k.extents l && is_needed k l b

-- "A list above 4,096 cells is 6."
abbrev pub most_cells : ℕ
most_cells = 4096

-- 6 denies it: three lists of one length, not above the limit, and a tray with one place for each cell; by their lengths.
unfoldable pub lengths_one : ℕ → ℕ → ℕ → ℕ → Bool
lengths_one x y z tray = eqb y x && (eqb z x && (leb x most_cells && eqb tray x))

-- .. of a call; of a filling, the map has the block's cells too.
abbrev pub lists_fit : Cutting → CellCall → Bool
lists_fit k (request l t) = lengths_one (length l.xs) (length l.ys) (length l.zs) (length t)
lists_fit k (fill l b m t) = lengths_one (length l.xs) (length l.ys) (length l.zs) (length t) && eqb (length m) (cells (block_extents k b))
