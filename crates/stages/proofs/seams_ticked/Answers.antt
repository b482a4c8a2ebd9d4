use mathlib.Core.Bool.{not}
use mathlib.Core.Path.{ap}
use Rattle.std.proofs.Common.{arith}
use Rattle.stages.proofs.StageLaws.{seams_more, seams_broken}
use Rattle.stages.proofs.seams_ticked.Goals as goal

pub returns-then-not-block_ticked : goal.returns-then-not-block_ticked
returns-then-not-block_ticked c = seams_broken c.args.cuts.now c.args.ticks.now _ c.loop-b.b _ (omega arith) c.block_ticked.ensures (ap not c.if-not-block_ticked.true)

pub loop-b-preserved : goal.loop-b-preserved
loop-b-preserved c = seams_more c.args.cuts.now c.args.ticks.now c.loop-b.b _ c.loop-b.invariant c.block_ticked.ensures (ap not c.if-not-block_ticked.false)
