use Rattle.stages.proofs.StageLaws.{after_more}
use Rattle.stages.proofs.after_enrol.Goals as goal

pub returns : goal.returns
returns c = after_more c.args.cuts.now _ c.block_count.ensures c.if-block_count-eq1.false
