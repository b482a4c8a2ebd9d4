use Rattle.step_open.proofs.DoneLaws.{open_refused, open_accepted}
use Rattle.step_open.proofs.open.Goals as goal

pub returns-in_err-refusal : goal.returns-in_err-refusal
returns-in_err-refusal c =
    let h = rw (c.kinds.ensures, c.kinds-2.ensures, c.kinds-3.ensures, c.kinds-4.ensures, c.kinds-5.ensures, c.kinds-6.ensures) at c.in_err-refusal.ensures in
    open_refused _ _ _ c.args.cuts.now _ _ _ _ c.fresh-job.ensures _ h _ c.from_residual.ensures

pub returns : goal.returns
returns c =
    let h = rw (c.kinds.ensures, c.kinds-2.ensures, c.kinds-3.ensures, c.kinds-4.ensures, c.kinds-5.ensures, c.kinds-6.ensures) at c.in_ok-refusal.ensures in
    open_accepted _ _ _ c.args.cuts.now _ _ _ _ c.fresh-job.ensures h _ _ c.clear_all.ensures
