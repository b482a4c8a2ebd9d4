-- The tables after the lines before line y of layer z.
use Rattle.std.proofs.Common.{◌+◌, ◌*◌}
use Rattle.pass_strain.specs.BlockReadings.{input_of}
use Rattle.pass_strain.proofs.SumLaws.{Gone}
use Rattle.pass_strain.proofs.sum_block.Given as goal

abbrev pub invariant-loop-z : goal.invariant-loop-z
invariant-loop-z l = Gone l.e l.s (input_of l.g) l.fn.sums l.fn.counts (l.z * l.h) l.sums l.counts

abbrev pub invariant-loop-y : goal.invariant-loop-y
invariant-loop-y l = Gone l.e l.s (input_of l.g) l.fn.sums l.fn.counts (l.z * l.h + l.y) l.sums l.counts
