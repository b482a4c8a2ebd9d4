-- What the two calls of item 12 decline, from the job, its tables and what the call brings.
-- Assumes nothing.
use Rattle.std.specs.Prelude.{Bool, true, not, ◌&&◌, ◌||◌, List, [], ◌∷◌, ◌++◌, ℕ}
use Rattle.lists.specs.Lists.{consecutive, all_of}
use Rattle.refusals.specs.declared.Refusal.{Refusal}
use Rattle.refusals.specs.Refusals.{Case, ◌if◌, given_refusal}
use Rattle.cells.specs.Extents.{off_size}
use Rattle.cutting.specs.Cutting.{block_extents, good_cut}
use Rattle.joiner.specs.Job.{Face, Curve, Point, Closed, same_stage, Told, Tables, State, Tray, lengths_fit, block_trays, number_trays, first_trays}
use Rattle.joiner.specs.Stages.{local}
use Rattle.joiner.specs.Declines.{tallies_fit, map_stands, look_stands}
use Rattle.cell_calls.specs.Cells.{CellLists, cell_count, cell_at, read_from}
use Rattle.cell_calls.specs.Calls.{CellCall, request, fill, cells_placed, lists_fit}

-- 6: a filling is lent the tables that a lookup is lent, a request none.
abbrev pub lent_for : Told → Tables → CellCall → List Tray
lent_for o t (request l w) = []
lent_for o t (fill l b m w) = block_trays o t ++ number_trays o t Face ++ number_trays o t Curve ++ first_trays o t Point

-- 8 of a filling is that of a lookup: the final number of cell i, if it is read from block b, is one of the closed table's.
unfoldable pub cell_stands : State → CellLists → ℕ → List ℕ → ℕ → Bool
cell_stands s l b m i = not (read_from s.job.told.cutting l b i) || look_stands s b m (local s.job.told.cutting b (cell_at l i))

-- The map and the entries that a call reads are no stray ones.
abbrev pub cells_stand : State → CellCall → Bool
cells_stand s (request l t) = true
cells_stand s (fill l b m t) = map_stands s (block_extents s.job.told.cutting b) b m && all_of (cell_stands s l b m) (consecutive 0 (cell_count l))

-- The cases of the two calls.
unfoldable pub cell_declines : State → CellCall → List Case
cell_declines s c =
    Refusal.OffSize if off_size 1024 s.job.told.cutting.extents ∷
    Refusal.BadCut if not (good_cut s.job.told.cutting) ∷
    Refusal.WrongStage if not (same_stage s.job.stage Closed) ∷
    Refusal.NoSuchPlace if not (cells_placed s.job.told.cutting c) ∷
    Refusal.WrongTray if not (lists_fit s.job.told.cutting c && lengths_fit (lent_for s.job.told s.tables c)) ∷
    Refusal.StrayLabel if not (tallies_fit s.job && cells_stand s c) ∷
    []

-- The number with which a call is refused, 0 where it is accepted.
unfoldable pub cell_refusal : State → CellCall → ℕ
cell_refusal s c = given_refusal (cell_declines s c)
