use Rattle.std.proofs.Common.{refl, ◌∙◌, arith}
use Rattle.refusals.proofs.RefusalLaws.{err_number, number_positive}
use Rattle.judge.proofs.JudgeLaws.{judged_first, begun_few, begun_sized, judged_then, fits_size}
use Rattle.judge.proofs.judge.Goals as goal

pub returns-in_err-reached : goal.returns-in_err-reached
returns-in_err-reached c =
    err_number _ _ c.from_residual.ensures
    ∙ judged_first c.args.job c.args.cuts.now _ _ _ _ _ _ _ c.stage_of.ensures c.in_err-reached.ensures _ _ (λ z. absurd (omega (arith, number_positive c.in_err-reached.field-0.0, z)))

pub block_count-count-requires : goal.block_count-count-requires
block_count-count-requires c = begun_few c.args.job c.args.cuts.now _ _ c.args.z _ _ _ _ c.stage_of.ensures c.in_ok-reached.ensures refl

pub fits-whole-requires : goal.fits-whole-requires
fits-whole-requires c =
    begun_sized c.args.job c.args.cuts.now _ _ c.args.z _ _ _ _ c.stage_of.ensures c.in_ok-reached.ensures refl _ c.block_at-block.ensures _ c.block_count-count.ensures

pub judge_map-requires : goal.judge_map-requires
judge_map-requires c =
    let s = begun_sized c.args.job c.args.cuts.now _ _ c.args.z _ _ _ _ c.stage_of.ensures c.in_ok-reached.ensures refl _ c.block_at-block.ensures _ c.block_count-count.ensures in
    (s.1, fits_size c.args.call _ _ _ c.args.z _ _ c.fits-whole.ensures)

pub returns : goal.returns
returns c =
    judged_then c.args.job c.args.cuts.now _ _ c.args.z _ _ _ _ c.stage_of.ensures c.in_ok-reached.ensures refl _ c.block_at-block.ensures _ c.block_count-count.ensures
    _ _ _ c.fits-whole.ensures _ c.entry_of.ensures _ c.judge_map.ensures
