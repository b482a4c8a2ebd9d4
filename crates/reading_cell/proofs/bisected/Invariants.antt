-- What is left to find is what was to find.
use Rattle.reading_cell.proofs.BisectLaws.{Left}
use Rattle.reading_cell.proofs.bisected.Given as goal

abbrev pub invariant-loop-s : goal.invariant-loop-s
invariant-loop-s l = Left l.table l.v l.count l.s

abbrev pub decreases-loop-s : goal.decreases-loop-s
decreases-loop-s l = l.s.size
