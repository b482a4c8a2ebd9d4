-- The blocks before b are ticked.
use Rattle.std.proofs.Common.{◌≡◌, true}
use Rattle.stages.specs.Ticks.{ticked_in, ticked_to}
use Rattle.stages.proofs.column_ticked.Given as goal

abbrev pub invariant-loop-b : goal.invariant-loop-b
invariant-loop-b l = ticked_to (ticked_in l.ticks) l.column l.b ≡ true
