use Rattle.std.proofs.Common.{arith}
use Rattle.step_enrol.proofs.DoneLaws.{act_block, act_faces, act_curves, act_advance, act_done}
use Rattle.step_enrol.proofs.act.Goals as goal

pub put_block-requires : goal.put_block-requires
put_block-requires c = act_block c.args.job c.args.cuts.now _ _ _ _ _ _ _ _ _ _ _ c.requires

pub enrol_kind-requires : goal.enrol_kind-requires
enrol_kind-requires c = rw c.extents-v.ensures (act_faces c.args.job c.args.cuts.now _ _ _ _ _ _ _ _ _ _ _ c.requires _ c.block_at-r.ensures)

pub enrol_kind-requires-2 : goal.enrol_kind-requires-2
enrol_kind-requires-2 c = rw c.extents-v.ensures (act_curves c.args.job c.args.cuts.now _ _ _ _ _ _ _ _ _ _ _ c.requires _ c.block_at-r.ensures (omega (arith, c.well_formed)))

pub advance-requires-clause-step_in_bounds : goal.advance-requires-clause-step_in_bounds
advance-requires-clause-step_in_bounds c = (act_advance c.args.job c.args.cuts.now _ _ _ _ _ _ _ _ _ _ _ c.requires).0

pub advance-requires-clause-faces_bound : goal.advance-requires-clause-faces_bound
advance-requires-clause-faces_bound c = (act_advance c.args.job c.args.cuts.now _ _ _ _ _ _ _ _ _ _ _ c.requires).1

pub returns : goal.returns
returns c =
    let F = rw c.extents-v.ensures at c.enrol_kind.ensures in
    let C = rw c.extents-v.ensures at c.enrol_kind-2.ensures in
    act_done c.args.job c.args.cuts.now _ _ _ _ _ _ _ _ _ _ _ c.requires _ c.block_at-r.ensures _ c.put_block.ensures _ _ _ F _ _ _ C _ _ c.advance.ensures
