-- The tests in their order, by what the code finds.
use Rattle.std.proofs.Common.{refl, ◌∙◌}
use Rattle.refusals.specs.Refusals.{number}
use Rattle.refusals.proofs.RefusalLaws.{err_number}
use Rattle.judge.proofs.JudgeLaws.{refused_first}
use Rattle.reading_total.specs.Inner.{refusal_of}
use Rattle.reading_total.proofs.TotalLaws.{refuse_few, refuse_ready, refuse_3, refuse_4, refuse_6, refuse_last}
use Rattle.reading_total.proofs.refuse.Goals as goal

pub returns-in_err-opened : goal.returns-in_err-opened
unfolding refusal_of
returns-in_err-opened c = err_number _ _ c.from_residual.ensures ∙ refused_first _ _ _ c.in_err-opened.ensures

pub block_count-count-requires : goal.block_count-count-requires
block_count-count-requires c = refuse_few c.args.job c.args.cuts.now c.args.came.now c.args.face_sums.now c.args.face_counts.now c.args.number c.in_ok-opened.ensures

pub returns-then-not-all_came : goal.returns-then-not-all_came
unfolding number
returns-then-not-all_came c = refuse_3 c.args.job c.args.cuts.now c.args.came.now c.args.face_sums.now c.args.face_counts.now c.args.number c.in_ok-opened.ensures _ c.block_count-count.ensures _ c.all_came.ensures c.if-not-all_came.true

pub returns-then-not-has_number : goal.returns-then-not-has_number
unfolding number
returns-then-not-has_number c = refuse_4 c.args.job c.args.cuts.now c.args.came.now c.args.face_sums.now c.args.face_counts.now c.args.number c.in_ok-opened.ensures _ c.block_count-count.ensures _ c.all_came.ensures c.if-not-all_came.false _ c.has_number.ensures c.if-not-has_number.true

pub returns-then-not-total_trays : goal.returns-then-not-total_trays
unfolding number
returns-then-not-total_trays c =
    refuse_6 c.args.job c.args.cuts.now c.args.came.now c.args.face_sums.now c.args.face_counts.now c.args.number c.in_ok-opened.ensures _ c.block_count-count.ensures _ c.all_came.ensures c.if-not-all_came.false _ c.has_number.ensures c.if-not-has_number.false _ c.total_trays.ensures c.if-not-total_trays.true

pub stand-requires : goal.stand-requires
stand-requires c =
    refuse_ready c.args.job c.args.cuts.now c.args.came.now c.args.face_sums.now c.args.face_counts.now c.args.number c.in_ok-opened.ensures _ c.has_number.ensures c.if-not-has_number.false _ _ _ c.total_trays.ensures c.if-not-total_trays.false

pub returns-then-not-stand : goal.returns-then-not-stand
unfolding number
returns-then-not-stand c =
    refuse_last c.args.job c.args.cuts.now c.args.came.now c.args.face_sums.now c.args.face_counts.now c.args.number c.in_ok-opened.ensures _ c.block_count-count.ensures _ c.all_came.ensures c.if-not-all_came.false _ c.has_number.ensures c.if-not-has_number.false _ c.total_trays.ensures c.if-not-total_trays.false _ c.stand.ensures 8 (rw c.if-not-stand.true refl)

pub returns : goal.returns
returns c =
    refuse_last c.args.job c.args.cuts.now c.args.came.now c.args.face_sums.now c.args.face_counts.now c.args.number c.in_ok-opened.ensures _ c.block_count-count.ensures _ c.all_came.ensures c.if-not-all_came.false _ c.has_number.ensures c.if-not-has_number.false _ c.total_trays.ensures c.if-not-total_trays.false _ c.stand.ensures 0 (rw c.if-not-stand.false refl)
