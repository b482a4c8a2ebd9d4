-- The tables after the listed cells before x.
use Rattle.pass_strain.specs.BlockReadings.{input_of}
use Rattle.pass_strain.proofs.ShownLaws.{Taking}
use Rattle.pass_strain.proofs.take_line.Given as goal

abbrev pub invariant-loop-x : goal.invariant-loop-x
invariant-loop-x l = Taking l.e l.s (input_of l.g) l.fn.l l.face.line l.x-items l.initial.sums l.initial.counts l.x-index l.sums l.counts
