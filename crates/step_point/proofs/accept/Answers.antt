-- The stores need what the tests have passed.
use Rattle.step_point.proofs.DoneLaws.{accept_advance, accept_store, accept_close, accept_done}
use Rattle.step_point.proofs.accept.Goals as goal

pub advance-next-requires-clause-step_in_bounds : goal.advance-next-requires-clause-step_in_bounds
advance-next-requires-clause-step_in_bounds c = (accept_advance c.args.job c.args.cuts.now _ _ _ _ _ _ _ _ _ _ _ c.requires).0

pub advance-next-requires-clause-faces_bound : goal.advance-next-requires-clause-faces_bound
advance-next-requires-clause-faces_bound c = (accept_advance c.args.job c.args.cuts.now _ _ _ _ _ _ _ _ _ _ _ c.requires).1

pub store_points-requires : goal.store_points-requires
store_points-requires c =
    rw (c.extents-v.ensures, c.entry_of-d.ensures) (accept_store c.args.job c.args.cuts.now _ _ _ _ _ _ _ _ _ _ _ c.requires _ c.block_at-r.ensures)

pub close-requires : goal.close-requires
close-requires c =
    accept_close c.args.job c.args.cuts.now _ _ _ _ _ _ _ _ _ _ _ c.requires _ c.block_at-r.ensures _ _ c.advance-next.ensures _
    (rw (c.extents-v.ensures, c.entry_of-d.ensures) at c.store_points.ensures.keys)

pub returns : goal.returns
returns c =
    let keys = rw (c.extents-v.ensures, c.entry_of-d.ensures) at c.store_points.ensures.keys in
    let rows = rw (c.entry_of-d.ensures) at c.store_points.ensures.rows in
    accept_done c.args.job c.args.cuts.now _ _ _ _ _ _ _ _ _ _ _ c.requires _ c.block_at-r.ensures _ _ c.advance-next.ensures _ keys _ rows _ _ _ _ c.close.ensures
