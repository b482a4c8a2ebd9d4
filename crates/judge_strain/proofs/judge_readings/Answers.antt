-- The tests in their order, by what the code finds.
use Rattle.std.proofs.Common.{◌∙◌}
use Rattle.refusals.specs.Refusals.{number}
use Rattle.refusals.proofs.RefusalLaws.{err_number}
use Rattle.judge.proofs.JudgeLaws.{refused_first}
use Rattle.judge_strain.specs.Tests.{refusal_of}
use Rattle.judge_strain.proofs.TestLaws.{judge_few, judge_sized, judge_whole, judge_6, judge_late}
use Rattle.judge_strain.proofs.judge_readings.Goals as goal

pub returns-in_err-reached : goal.returns-in_err-reached
unfolding refusal_of
returns-in_err-reached c = err_number _ _ c.from_residual.ensures ∙ refused_first _ _ _ c.in_err-reached.ensures

pub block_count-count-requires : goal.block_count-count-requires
block_count-count-requires c = judge_few c.args.job c.args.cuts.now _ _ c.in_ok-reached.ensures

pub trays_fit-requires : goal.trays_fit-requires
trays_fit-requires c = judge_sized c.args.job c.args.cuts.now _ _ c.in_ok-reached.ensures _ c.block_at-block.ensures _ c.block_count-count.ensures

pub returns-then-not-trays_fit : goal.returns-then-not-trays_fit
unfolding number
returns-then-not-trays_fit c =
    judge_6 c.args.job c.args.cuts.now _ _ c.in_ok-reached.ensures _ c.block_at-block.ensures _ c.block_count-count.ensures _ _ _ _ _ _ _ _ c.trays_fit.ensures c.if-not-trays_fit.true

pub late-requires : goal.late-requires
late-requires c =
    judge_whole c.args.job c.args.cuts.now _ _ c.in_ok-reached.ensures _ c.block_at-block.ensures _ c.block_count-count.ensures
    c.args.tables.now.blocks.now c.args.tables.now.numbers.now _ _ _ _ _ _ c.trays_fit.ensures c.if-not-trays_fit.false

pub returns : goal.returns
returns c =
    judge_late c.args.job c.args.cuts.now _ _ c.in_ok-reached.ensures _ c.block_at-block.ensures _ c.block_count-count.ensures
    _ _ _ _ _ _ _ _ c.trays_fit.ensures c.if-not-trays_fit.false _ c.entry_of-entry.ensures _ c.late.ensures
