-- What the two calls of item 12 answer and leave, for all inputs: one equation.
-- Assumes nothing.
use Rattle.std.specs.Prelude.{◌≡◌, cond, List, ℕ, eqb, get_or, length}
use Rattle.lists.specs.Lists.{tabulate, laid}
use Rattle.cutting.specs.Cutting.{Cutting}
use Rattle.joiner.specs.Job.{State}
use Rattle.joiner.specs.Outcomes.{looked_up}
use Rattle.cell_calls.specs.Cells.{CellLists, cell_at, read_from, needed_blocks}
use Rattle.cell_calls.specs.Calls.{CellCall, request, fill, CellAnswer, cell_answer, tray_of}
use Rattle.cell_calls.specs.Declines.{cell_refusal}

-- The answer of an accepted request: the needed blocks are the first entries of the tray, and the rest of it stays.
unfoldable pub listed_in : Cutting → CellLists → List ℕ → CellAnswer
listed_in k l tray = cell_answer 0 (length (needed_blocks k l)) (laid 0 (needed_blocks k l) tray)

-- "Fills in the answers read from it, no others": the tray of answers, with a number for each cell that is read from block b.
unfoldable pub filled_by : Cutting → CellLists → ℕ → (ℕ → ℕ) → List ℕ → List ℕ
filled_by k l b numbers tray = tabulate (length tray) (λ i. cond (read_from k l b i) (numbers i) (get_or tray i 0))

-- .. with the numbers that lookups give.
unfoldable pub filled_from : State → CellLists → ℕ → List ℕ → List ℕ → List ℕ
filled_from s l b m tray = filled_by s.job.told.cutting l b (λ i. looked_up s b m (cell_at l i)) tray

-- An accepted call.
abbrev pub cell_done : State → CellCall → CellAnswer
cell_done s (request l t) = listed_in s.job.told.cutting l t
cell_done s (fill l b m t) = cell_answer 0 0 (filled_from s l b m t)

-- "A refusal returns its number, .. every other field 0 or empty, and changes no lent slice."
unfoldable pub cells_answered : State → CellCall → CellAnswer
cells_answered s c = cond (eqb (cell_refusal s c) 0) (cell_done s c) (cell_answer (cell_refusal s c) 0 (tray_of c))

-- One call, whatever it is handed. It changes neither the job nor a table.
abbrev pub CellStep : State → CellCall → CellAnswer → Type 0
CellStep s c a = a ≡ cells_answered s c
