-- The tests in their order, by what the code finds.
use Rattle.std.proofs.Common.{◌∙◌}
use Rattle.refusals.specs.Refusals.{number}
use Rattle.refusals.proofs.RefusalLaws.{err_number}
use Rattle.judge.proofs.JudgeLaws.{refused_first, fits_size}
use Rattle.reading_cell.specs.Inner.{look_judged}
use Rattle.reading_cell.proofs.LookupLaws.{begun_few, begun_sized, look_4, look_judged_lem}
use Rattle.reading_cell.proofs.refuse.Goals as goal

pub returns-in_err-opened : goal.returns-in_err-opened
unfolding look_judged
returns-in_err-opened c = err_number _ _ c.from_residual.ensures ∙ refused_first _ _ _ c.in_err-opened.ensures

pub returns-then-not-has_place : goal.returns-then-not-has_place
unfolding number
returns-then-not-has_place c = look_4 c.args.job c.args.cuts.now _ _ _ _ _ c.args.b c.args.m.now c.args.c c.in_ok-opened.ensures _ c.has_place.ensures c.if-not-has_place.true

pub block_count-count-requires : goal.block_count-count-requires
block_count-count-requires c = begun_few c.args.job c.args.cuts.now c.args.b c.args.c c.in_ok-opened.ensures _ c.has_place.ensures c.if-not-has_place.false

pub fits-whole-requires : goal.fits-whole-requires
fits-whole-requires c =
    begun_sized c.args.job c.args.cuts.now c.args.b c.args.c c.in_ok-opened.ensures _ c.has_place.ensures c.if-not-has_place.false _ c.block_at-block.ensures _ c.block_count-count.ensures

pub judge_map-requires : goal.judge_map-requires
judge_map-requires c =
    let s = begun_sized c.args.job c.args.cuts.now c.args.b c.args.c c.in_ok-opened.ensures _ c.has_place.ensures c.if-not-has_place.false _ c.block_at-block.ensures _ c.block_count-count.ensures in
    (s.1, fits_size _ _ _ _ _ _ _ c.fits-whole.ensures)

pub returns : goal.returns
returns c =
    look_judged_lem c.args.job c.args.cuts.now _ _ _ _ _ c.args.b c.args.m.now c.args.c c.in_ok-opened.ensures _ c.has_place.ensures c.if-not-has_place.false
    _ c.block_at-block.ensures _ c.block_count-count.ensures _ c.lengths-lengths.ensures _ c.fits-whole.ensures _ c.entry_of.ensures _ c.judge_map.ensures
