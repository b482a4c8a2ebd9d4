use Rattle.std.proofs.Common.{arith}
use Rattle.stages.proofs.StageLaws.{few_blocks, done_seam}
use Rattle.stages.proofs.finished.Goals as goal

pub column_ticked-requires : goal.column_ticked-requires
column_ticked-requires c = (omega arith, few_blocks c.args.cuts.now _ c.block_count-blocks.ensures c.requires)

pub seams_ticked-requires : goal.seams_ticked-requires
seams_ticked-requires c = few_blocks c.args.cuts.now _ c.block_count-blocks.ensures c.requires

pub column_ticked-requires-in-Crossing : goal.column_ticked-requires-in-Crossing
column_ticked-requires-in-Crossing c = (omega arith, few_blocks c.args.cuts.now _ c.block_count-blocks.ensures c.requires)

pub column_ticked-requires-in-Points : goal.column_ticked-requires-in-Points
column_ticked-requires-in-Points c = (omega arith, few_blocks c.args.cuts.now _ c.block_count-blocks.ensures c.requires)

pub returns-in-Seam : goal.returns-in-Seam
returns-in-Seam c = done_seam c.args.cuts.now _ _ _ _ c.block_count-blocks.ensures c.in-Seam.is c.seams_ticked.ensures
