use Rattle.std.proofs.Common.{◌∙◌}
use Rattle.cells.specs.Box.{triple}
use Rattle.refusals.specs.Refusals.{number}
use Rattle.refusals.proofs.RefusalLaws.{err_number}
use Rattle.judge_seam.proofs.TestLaws.{seam_first, seam_4, seam_5, seam_passed, seam_rest}
use Rattle.judge_seam.proofs.judge_seam.Goals as goal

pub returns-in_err-opened : goal.returns-in_err-opened
returns-in_err-opened c = err_number _ _ c.from_residual.ensures ∙ seam_first c.args.job c.args.cuts.now _ _ _ _ _ _ _ _ _ c.in_err-opened.ensures

pub returns-then-not-is_seam : goal.returns-then-not-is_seam
unfolding number
returns-then-not-is_seam c = seam_4 c.args.job c.args.cuts.now _ _ _ _ _ _ _ _ c.in_ok-opened.ensures _ c.is_seam.ensures c.if-not-is_seam.true

pub returns-then-is_ticked : goal.returns-then-is_ticked
unfolding number
returns-then-is_ticked c =
    seam_5 c.args.job c.args.cuts.now _ _ _ _ _ _ _ _ c.in_ok-opened.ensures _ c.is_seam.ensures c.if-not-is_seam.false _ (λ e. c.axis_number-axis.ensures ∙ c.seam_axis.ensures e) _ c.step_of.ensures _ c.is_ticked.ensures c.if-is_ticked.true

pub rest-requires : goal.rest-requires
rest-requires c =
    let p = seam_passed c.args.job c.args.cuts.now _ _ c.in_ok-opened.ensures _ c.is_seam.ensures c.if-not-is_seam.false in
    (p.0, p.1, c.axis_number-axis.ensures ∙ c.seam_axis.ensures (triple c.args.job.nx c.args.job.ny c.args.job.nz))

pub returns : goal.returns
returns c =
    seam_rest c.args.job c.args.cuts.now _ _ _ _ _ _ _ _ c.in_ok-opened.ensures _ c.is_seam.ensures c.if-not-is_seam.false _ (λ e. c.axis_number-axis.ensures ∙ c.seam_axis.ensures e) _ c.step_of.ensures _ c.is_ticked.ensures c.if-is_ticked.false
    _ c.rest.ensures
