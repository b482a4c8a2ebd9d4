-- The refusals of the two calls about lists of cells, after the first tests.
-- Assumes nothing.
use Rattle.std.specs.Prelude.{◌≡◌, not, cond, ◌&&◌, List, ℕ, length}
use Rattle.joiner.specs.Job.{State, lengths_fit}
use Rattle.joiner.specs.Declines.{tallies_fit}
use Rattle.cell_calls.specs.Calls.{CellCall, cells_placed, lists_fit}
use Rattle.cell_calls.specs.Declines.{lent_for, cells_stand}

-- 6 and 8, 0 for none.
unfoldable pub late_of : State → CellCall → ℕ
late_of s c =
    cond (not (lists_fit s.job.told.cutting c && lengths_fit (lent_for s.job.told s.tables c))) 6 (cond (not (tallies_fit s.job && cells_stand s c)) 8 0)

-- .. and 4.
unfoldable pub placed_of : State → CellCall → ℕ
placed_of s c = cond (not (cells_placed s.job.told.cutting c)) 4 (late_of s c)

-- What holds of every tray of n places.
abbrev pub AnyTray : ℕ → (List ℕ → Type 0) → Type 0
AnyTray n P = (w : List ℕ) → length w ≡ n → P w
