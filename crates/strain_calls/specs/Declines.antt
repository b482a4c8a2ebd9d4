-- What the readings' step and the reading of a total decline, from the job, its tables and what the call brings (document 02, item 1).
-- Assumes nothing.
use Rattle.std.specs.Prelude.{Bool, not, ◌&&◌, List, [], ◌∷◌, ◌++◌, ℕ, ◌*◌, eqb, get_or, length}
use Rattle.lists.specs.Lists.{consecutive, all_of}
use Rattle.refusals.specs.declared.Refusal.{Refusal}
use Rattle.refusals.specs.Refusals.{Case, ◌if◌, given_refusal}
use Rattle.cells.specs.Extents.{off_size}
use Rattle.cells.specs.Grid.{cells}
use Rattle.cutting.specs.Cutting.{Cutting, blocks, block_extents, good_cut}
use Rattle.joiner.specs.Job.{Face, Told, Tables, State, Tray, tray, count_of, from_of, lengths_fit, number_trays, numbers_per_block}
use Rattle.joiner.specs.Declines.{tallies_fit, map_stands, number_stands}
use Rattle.joiner.specs.Outcomes.{all_trays}
use Rattle.totals.specs.Totals.{both_stand}
use Rattle.strain_calls.specs.Tables.{TotalTables, total_trays}
use Rattle.strain_calls.specs.Calls.{StrainCall, strain, total, in_stage, has_place, again, lists_fit, bad_reading}

-- ---- opening

-- "1 off size", "2 bad cut", "6 wrong tray", of the tables of the readings too.
unfoldable pub opening_declines : Told → Tables → TotalTables → List Case
opening_declines o t w =
    Refusal.OffSize if off_size 1024 o.cutting.extents ∷ Refusal.BadCut if not (good_cut o.cutting) ∷
    Refusal.WrongTray if not (lengths_fit (all_trays o t) && lengths_fit (total_trays o w)) ∷ []

-- What is given, 0 for none.
unfoldable pub opening_refusal : Told → Tables → TotalTables → ℕ
opening_refusal o t w = given_refusal (opening_declines o t w)

-- ---- the two calls

-- The readings of block b have come. A tick outside the table does not stand.
unfoldable pub has_come : TotalTables → ℕ → Bool
has_come w b = not (eqb (get_or w.came b 0) 0)

-- 6: each call is lent the tables that it reads or writes, and no other.
abbrev pub lent_for : Told → Tables → TotalTables → StrainCall → List Tray
lent_for o t w (strain b m values kinds) = tray (length t.blocks) (numbers_per_block * blocks o.cutting) ∷ (number_trays o t Face ++ total_trays o w)
lent_for o t w (total n) = total_trays o w

-- "8 now covers a total read with counts above the volume's cells, or a sum beyond 2^43 or no such multiple": either side of face n.
unfoldable pub total_stands : Cutting → TotalTables → ℕ → Bool
total_stands k w n = both_stand (cells k.extents) w.sums w.counts n

-- A face of the block, by its place: its final number is that of a face of the job, 1 to the numbered, and its total stands.
unfoldable pub face_stands : State → TotalTables → ℕ → Bool
face_stands s w x = number_stands s Face x && total_stands s.job.told.cutting w (get_or (s.tables.numbers Face) x 0)

-- .. of each of the block's faces.
unfoldable pub faces_stand : State → TotalTables → ℕ → Bool
faces_stand s w b = all_of (face_stands s w) (consecutive (from_of s.tables Face b) (count_of s.tables Face b))

-- The map and the entries that a call reads are no stray ones.
abbrev pub strain_stands : State → TotalTables → StrainCall → Bool
strain_stands s w (strain b m values kinds) = map_stands s (block_extents s.job.told.cutting b) b m && faces_stand s w b
strain_stands s w (total n) = total_stands s.job.told.cutting w n

-- The cases of the two calls. A total gives no 5 and no 12.
unfoldable pub strain_declines : State → TotalTables → StrainCall → List Case
strain_declines s w c =
    Refusal.OffSize if off_size 1024 s.job.told.cutting.extents ∷
    Refusal.BadCut if not (good_cut s.job.told.cutting) ∷
    Refusal.WrongStage if not (in_stage s.job.told.cutting s.job.stage (has_come w) c) ∷
    Refusal.NoSuchPlace if not (has_place s.job.told.cutting (s.job.numbered Face) c) ∷
    Refusal.DoneAlready if again (has_come w) c ∷
    Refusal.WrongTray if not (lists_fit s.job.told.cutting c && lengths_fit (lent_for s.job.told s.tables w c)) ∷
    Refusal.StrayLabel if not (tallies_fit s.job && strain_stands s w c) ∷
    Refusal.BadReading if bad_reading c ∷
    []

-- The number with which a call is refused, 0 where it is accepted.
unfoldable pub strain_refusal : State → TotalTables → StrainCall → ℕ
strain_refusal s w c = given_refusal (strain_declines s w c)
