use Rattle.std.proofs.Common.{refl}
use Rattle.step_enrol.proofs.DoneLaws.{enrol_refused, enrol_ready, enrol_accepted}
use Rattle.step_enrol.proofs.enrol.Goals as goal

pub returns-in_err-plan : goal.returns-in_err-plan
returns-in_err-plan c = enrol_refused c.args.job c.args.cuts.now _ _ _ _ _ _ _ _ _ _ _ c.lengths_of-lengths.ensures _ c.in_err-plan.ensures _ refl _ c.from_residual.ensures

pub act-requires : goal.act-requires
act-requires c = enrol_ready c.args.job c.args.cuts.now _ _ _ _ _ _ _ _ _ _ _ c.lengths_of-lengths.ensures _ c.in_ok-plan.ensures _ refl

pub returns : goal.returns
returns c = enrol_accepted c.args.job c.args.cuts.now _ _ _ _ _ _ _ _ _ _ _ c.lengths_of-lengths.ensures _ c.in_ok-plan.ensures _ refl _ c.act.ensures
