-- The day book on the two calls about lists of cells (document 02, item 12): what is refused and answered, from what the calls bring, never job or tables.
-- Assumes nothing.
use Rattle.std.specs.Prelude.{Bool, true, not, ◌&&◌, List, [], ◌∷◌, ℕ, eqb, get_or}
use Rattle.refusals.specs.declared.Refusal.{Refusal}
use Rattle.refusals.specs.Refusals.{Case, ◌if◌, given_refusal}
use Rattle.cells.specs.Box.{index}
use Rattle.cells.specs.declared.Triple.{Triple}
use Rattle.cells.specs.Grid.{sides}
use Rattle.cells.specs.Row.{same_row}
use Rattle.joiner.specs.Job.{Closed, same_stage}
use Rattle.joiner.specs.Book.{Book, uncut}
use Rattle.cell_calls.specs.Cells.{CellLists, cell_at}
use Rattle.cell_calls.specs.Calls.{CellCall, request, fill, CellAnswer, cell_answer, cells_placed, lists_fit}
use Rattle.cell_calls.specs.Outcomes.{listed_in, filled_by}

-- 3, 4 and 6 go by the book, whatever map is brought. It gives no other.
unfoldable pub cell_book_declines : Book → CellCall → List Case
cell_book_declines B c =
    Refusal.WrongStage if not (same_stage B.stage Closed) ∷
    Refusal.NoSuchPlace if not (cells_placed B.told.cutting c) ∷
    Refusal.WrongTray if not (lists_fit B.told.cutting c) ∷
    []

-- What is given, 0 for none.
unfoldable pub cell_book_refusal : Book → CellCall → ℕ
cell_book_refusal B c = given_refusal (cell_book_declines B c)

-- The call brings its block's map, the enrolled one. A request brings none.
abbrev pub brings_map : Book → CellCall → Bool
brings_map B (request l t) = true
brings_map B (fill l b m t) = same_row m (B.maps b)

-- "A call with another map counts as refused."
unfoldable pub cell_accepts : Book → CellCall → Bool
cell_accepts B c = eqb (cell_book_refusal B c) 0 && brings_map B c

-- "Each cell's final number": what cell i of the list holds in an uncut map of a volume of e voxels.
unfoldable pub number_at : Triple → List ℕ → CellLists → ℕ → ℕ
number_at e m l i = get_or m (index (sides e) (cell_at l i)) 0

-- What an accepted call answers: the needed blocks; or the tray of answers with the uncut numbers of the cells that are read from the block.
abbrev pub cell_book_answer : Book → CellCall → CellAnswer
cell_book_answer B (request l t) = listed_in B.told.cutting l t
cell_book_answer B (fill l b m t) = cell_answer 0 0 (filled_by B.told.cutting l b (number_at B.told.cutting.extents (uncut B) l) t)
