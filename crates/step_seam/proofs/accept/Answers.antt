use mathlib.Core.Path.{◌∙◌}
use Rattle.cells.specs.Box.{triple}
use Rattle.step_seam.proofs.DoneLaws.{low_sized, high_sized, step_in, seam_few, seam_sums, face_length, curve_length, seam_done}
use Rattle.step_seam.proofs.accept.Goals as goal

pub shared_layer-s-requires : goal.shared_layer-s-requires
shared_layer-s-requires c =
    let e = triple c.args.job.nx c.args.job.ny c.args.job.nz in
    (low_sized c.args.job c.args.cuts.now _ _ _ _ _ _ _ _ c.requires _ (c.block_at-below.ensures e), high_sized c.args.job c.args.cuts.now _ _ _ _ _ _ _ _ c.requires _ (c.block_at-above.ensures e))

pub link-requires : goal.link-requires
link-requires c = (face_length c.args.job c.args.cuts.now _ _ _ _ _ _ _ _ c.requires, curve_length c.args.job c.args.cuts.now _ _ _ _ _ _ _ _ c.requires)

pub advance-requires-clause-step_in_bounds : goal.advance-requires-clause-step_in_bounds
advance-requires-clause-step_in_bounds c =
    let axis_is = c.axis_number-axis.ensures ∙ c.seam_axis.ensures (triple c.args.job.nx c.args.job.ny c.args.job.nz) in
    (step_in c.args.job c.args.cuts.now _ _ _ _ _ _ _ _ c.requires _ _ axis_is c.step_of.ensures, seam_few c.args.job c.args.cuts.now _ _ _ _ _ _ _ _ c.requires)

pub advance-requires-clause-faces_bound : goal.advance-requires-clause-faces_bound
advance-requires-clause-faces_bound c = seam_sums c.args.job c.args.cuts.now _ _ _ _ _ _ _ _ c.requires

pub returns : goal.returns
returns c =
    let e = triple c.args.job.nx c.args.job.ny c.args.job.nz in
    seam_done c.args.job c.args.cuts.now _ _ _ _ _ _ _ _ c.requires _ _ _ _ (c.axis_number-axis.ensures ∙ c.seam_axis.ensures e) (c.block_at-below.ensures e) (c.block_at-above.ensures e) c.shared_layer-s.ensures
    _ _ c.entry_of-d.ensures c.entry_of-g.ensures _ c.step_of.ensures _ _ _ _ c.advance.ensures c.link.ensures
