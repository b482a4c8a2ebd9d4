-- The judge's refusals come first, then those by the final numbers of the curves and the room for points.
use Rattle.judge_point.proofs.TestLaws.{points_first, points_map, points_late}
use Rattle.judge_point.proofs.judge_points.Goals as goal

pub returns-in_err-judge : goal.returns-in_err-judge
returns-in_err-judge c = points_first c.args.job c.args.cuts.now _ _ _ _ _ _ _ c.in_err-judge.ensures _ c.from_residual.ensures

pub late-requires : goal.late-requires
late-requires c = points_map c.args.job c.args.cuts.now _ c.args.lengths _ c.args.curves.now _ _ c.in_ok-judge.ensures _ c.block_at-block.ensures

pub returns : goal.returns
returns c = points_late c.args.job c.args.cuts.now _ _ _ _ _ _ c.in_ok-judge.ensures _ c.block_at-block.ensures _ (rw c.entry_of.ensures at c.late.ensures)
