-- A refused step leaves everything, an accepted one what `accept` leaves.
use Rattle.step_cross.proofs.DoneLaws.{cross_refused, ready, cross_accepted}
use Rattle.step_cross.proofs.crossing.Goals as goal

pub returns-in_err-judge_crossing : goal.returns-in_err-judge_crossing
returns-in_err-judge_crossing c =
    cross_refused c.args.job c.args.cuts.now _ _ _ _ (rw (c.two_lengths.ensures, c.two_lengths-2.ensures, c.two_lengths-3.ensures, c.two_lengths-4.ensures, c.two_lengths-5.ensures, c.two_lengths-6.ensures) at c.in_err-judge_crossing.ensures) _ c.from_residual.ensures

pub accept-requires : goal.accept-requires
accept-requires c =
    ready c.args.job c.args.cuts.now _ _ _ (rw (c.two_lengths.ensures, c.two_lengths-2.ensures, c.two_lengths-3.ensures, c.two_lengths-4.ensures, c.two_lengths-5.ensures, c.two_lengths-6.ensures) at c.in_ok-judge_crossing.ensures)

pub returns : goal.returns
returns c =
    cross_accepted c.args.job c.args.cuts.now _ _ _ (rw (c.two_lengths.ensures, c.two_lengths-2.ensures, c.two_lengths-3.ensures, c.two_lengths-4.ensures, c.two_lengths-5.ensures, c.two_lengths-6.ensures) at c.in_ok-judge_crossing.ensures) _ c.accept.ensures
