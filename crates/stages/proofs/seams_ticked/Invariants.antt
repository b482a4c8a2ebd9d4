-- The seams of the blocks before b are ticked.
use Rattle.std.proofs.Common.{true}
use Rattle.stages.proofs.StageLaws.{Walked}
use Rattle.stages.proofs.seams_ticked.Given as goal

abbrev pub invariant-loop-b : goal.invariant-loop-b
invariant-loop-b l = Walked l.cuts l.ticks l.b true
