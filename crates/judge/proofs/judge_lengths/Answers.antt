use Rattle.std.proofs.Common.{refl, ◌∙◌, arith}
use Rattle.refusals.proofs.RefusalLaws.{err_number, number_positive}
use Rattle.refusals.specs.Refusals.{number}
use Rattle.judge.proofs.JudgeLaws.{lengths_first, begun_few, begun_sized, lengths_last}
use Rattle.judge.proofs.judge_lengths.Goals as goal

pub returns-in_err-reached : goal.returns-in_err-reached
returns-in_err-reached c =
    err_number _ _ c.from_residual.ensures
    ∙ lengths_first c.args.job c.args.cuts.now _ _ _ _ _ _ _ c.stage_of.ensures c.in_err-reached.ensures _ (λ z. absurd (omega (arith, number_positive c.in_err-reached.field-0.0, z)))

pub block_count-count-requires : goal.block_count-count-requires
block_count-count-requires c = begun_few c.args.job c.args.cuts.now _ _ c.args.z _ _ _ _ c.stage_of.ensures c.in_ok-reached.ensures refl

pub fits-requires : goal.fits-requires
fits-requires c =
    begun_sized c.args.job c.args.cuts.now _ _ c.args.z _ _ _ _ c.stage_of.ensures c.in_ok-reached.ensures refl _ c.block_at-block.ensures _ c.block_count-count.ensures

pub returns-then-not-fits : goal.returns-then-not-fits
unfolding number
returns-then-not-fits c =
    let l = lengths_last c.args.job c.args.cuts.now _ _ c.args.z _ _ _ _ c.stage_of.ensures c.in_ok-reached.ensures refl _ c.block_at-block.ensures _ c.block_count-count.ensures _ _ c.fits.ensures in
    rw c.if-not-fits.true at l

pub returns : goal.returns
returns c =
    let l = lengths_last c.args.job c.args.cuts.now _ _ c.args.z _ _ _ _ c.stage_of.ensures c.in_ok-reached.ensures refl _ c.block_at-block.ensures _ c.block_count-count.ensures _ _ c.fits.ensures in
    rw c.if-not-fits.false at l
