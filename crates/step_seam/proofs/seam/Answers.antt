use Rattle.step_seam.proofs.DoneLaws.{seam_refused}
use Rattle.step_seam.proofs.seam.Goals as goal

pub returns-in_err-judge_seam : goal.returns-in_err-judge_seam
returns-in_err-judge_seam c = seam_refused c.args.job c.args.cuts.now _ _ _ _ _ _ _ _ _ c.in_err-judge_seam.ensures _ c.from_residual.ensures
