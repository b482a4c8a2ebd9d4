-- The tests of the reading of a total, in the order of the code.
-- Assumes nothing.
use Rattle.std.specs.Prelude.{Bool, not, cond, ◌&&◌, List, ℕ, leb, ltb, Float, Result, Ok, Err}
use Rattle.refusals.specs.declared.Refusal.{Refusal}
use Rattle.cells.specs.Grid.{cells}
use Rattle.joiner.specs.Job.{Face, Closed, Job, lengths_fit}
use Rattle.joiner.specs.Declines.{tallies_fit}
use Rattle.stages.specs.Ticks.{ticked_in}
use Rattle.judge.specs.Judge.{first_refusal, opened_of}
use Rattle.totals.specs.Totals.{both_stand}
use Rattle.totals.specs.declared.Totals.{Totals}
use Rattle.strain_calls.specs.Tables.{TotalTables, total_trays}
use Rattle.strain_calls.specs.Calls.{all_come, no_totals}

-- 8 denies it: the tallies fit, and the total of face n stands.
unfoldable pub stand_in : Job → List Float → List ℕ → ℕ → Bool
stand_in j sums counts n = tallies_fit j && both_stand (cells j.told.cutting.extents) sums counts n

-- The refusal, 0 for none: `strain_refusal` of a total, whatever the joiner's tables are.
unfoldable pub refusal_of : Job → TotalTables → ℕ → ℕ
refusal_of j w n =
    first_refusal (opened_of j Closed)
    (cond (not (all_come j.told.cutting (ticked_in w.came))) 3
    (cond (not (ltb 0 n && leb n (j.numbered Face))) 4
    (cond (not (lengths_fit (total_trays j.told w))) 6 (cond (not (stand_in j w.sums w.counts n)) 8 0))))

-- What an answer reads: zeros where it is refused.
abbrev pub totals_read : Result Totals Refusal → Totals
totals_read (Ok found) = found
totals_read (Err r) = no_totals
