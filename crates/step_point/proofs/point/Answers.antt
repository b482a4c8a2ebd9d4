-- A refused step leaves everything, an accepted one what `accept` leaves.
use Rattle.step_point.proofs.DoneLaws.{point_refused, point_ready, point_accepted}
use Rattle.step_point.proofs.point.Goals as goal

pub returns-in_err-points : goal.returns-in_err-points
returns-in_err-points c = point_refused c.args.job c.args.cuts.now _ _ _ _ _ _ _ _ _ _ _ (rw (c.point_lengths.ensures, c.point_lengths-2.ensures, c.point_lengths-3.ensures, c.point_lengths-4.ensures, c.point_lengths-5.ensures) at c.judge_points.ensures) _ c.in_err-points.was _ c.from_residual.ensures

pub accept-requires : goal.accept-requires
accept-requires c = point_ready c.args.job c.args.cuts.now _ _ _ _ _ _ _ _ _ _ _ (rw (c.point_lengths.ensures, c.point_lengths-2.ensures, c.point_lengths-3.ensures, c.point_lengths-4.ensures, c.point_lengths-5.ensures) at c.judge_points.ensures) _ c.in_ok-points.was

pub returns : goal.returns
returns c = point_accepted c.args.job c.args.cuts.now _ _ _ _ _ _ _ _ _ _ _ (rw (c.point_lengths.ensures, c.point_lengths-2.ensures, c.point_lengths-3.ensures, c.point_lengths-4.ensures, c.point_lengths-5.ensures) at c.judge_points.ensures) _ c.in_ok-points.was _ c.accept.ensures
