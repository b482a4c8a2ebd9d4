-- What a refusal leaves, and what an accepted step brings and leaves.
use Rattle.step_strain.proofs.DoneLaws.{strain_refused, strain_ready, strain_accepted}
use Rattle.step_strain.proofs.strain.Goals as goal

pub returns-in_err-judge_readings : goal.returns-in_err-judge_readings
returns-in_err-judge_readings c = strain_refused c.args.job c.args.cuts.now _ _ _ _ _ _ _ _ _ c.from_residual.result _ c.in_err-judge_readings.ensures c.from_residual.ensures

pub accept-requires : goal.accept-requires
accept-requires c = strain_ready c.args.job c.args.cuts.now _ _ _ _ _ _ _ _ _ c.in_ok-judge_readings.ensures

pub returns : goal.returns
returns c = strain_accepted c.args.job c.args.cuts.now _ _ _ _ _ _ _ _ _ c.in_ok-judge_readings.ensures _ c.accept.ensures
