-- The judge's refusals come first, then the tests of what the crossing reads besides.
use Rattle.std.proofs.Common.{◌∙◌}
use Rattle.refusals.proofs.RefusalLaws.{err_number}
use Rattle.refusals.specs.Refusals.{number}
use Rattle.judge.proofs.JudgeLaws.{refused_first}
use Rattle.judge_cross.specs.Tests.{refusal_of}
use Rattle.judge_cross.proofs.TestLaws.{cross_few, cross_most, cross_last_lem}
use Rattle.judge_cross.proofs.judge_crossing.Goals as goal

pub returns-in_err-judge : goal.returns-in_err-judge
unfolding refusal_of
returns-in_err-judge c = err_number _ _ c.from_residual.ensures ∙ refused_first _ _ _ (rw c.step_of-step.ensures at c.in_err-judge.ensures)

pub block_count-count-requires : goal.block_count-count-requires
block_count-count-requires c = cross_few c.args.job c.args.cuts.now _ c.args.lengths _ _ _ _ c.step_of-step.ensures c.in_ok-judge.ensures

pub own_stands-requires : goal.own_stands-requires
own_stands-requires c = cross_most c.args.job c.args.cuts.now _ c.args.lengths _ _ _ _ c.step_of-step.ensures c.in_ok-judge.ensures _ c.block_count-count.ensures

pub returns-then-not-own_stands : goal.returns-then-not-own_stands
unfolding number
returns-then-not-own_stands c =
    let l = cross_last_lem c.args.job c.args.cuts.now _ c.args.lengths _ _ _ _ c.step_of-step.ensures c.in_ok-judge.ensures _ c.block_count-count.ensures _ _ _ _ (rw c.entry_of-entry.ensures at c.own_stands.ensures) in
    rw c.if-not-own_stands.true at l

pub returns : goal.returns
returns c =
    let l = cross_last_lem c.args.job c.args.cuts.now _ c.args.lengths _ _ _ _ c.step_of-step.ensures c.in_ok-judge.ensures _ c.block_count-count.ensures _ _ _ _ (rw c.entry_of-entry.ensures at c.own_stands.ensures) in
    rw c.if-not-own_stands.false at l
