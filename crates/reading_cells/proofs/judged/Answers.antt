-- The tests in their order, by what the code finds.
use Rattle.std.proofs.Common.{refl}
use Rattle.cells.specs.Box.{triple}
use Rattle.refusals.specs.Refusals.{number}
use Rattle.refusals.proofs.RefusalLaws.{err_number}
use Rattle.judge.proofs.JudgeLaws.{fits_size}
use Rattle.reading_cells.specs.Inner.{sent}
use Rattle.reading_cells.proofs.FillLaws.{placed_few, placed_sized, placed_fits, late_6, late_map, late_last}
use Rattle.reading_cells.proofs.judged.Goals as goal

pub returns-then-not-lengths_one : goal.returns-then-not-lengths_one
unfolding number
returns-then-not-lengths_one c = late_6 c.args.job c.args.cuts.now c.args.tables.now (sent c.args.cells.now) c.args.b c.args.m.now c.args.places c.requires _ c.lengths_one.ensures c.if-not-lengths_one.true

pub block_count-count-requires : goal.block_count-count-requires
block_count-count-requires c = placed_few (triple c.args.job.nx c.args.job.ny c.args.job.nz) c.args.cuts.now (sent c.args.cells.now) c.args.b c.requires

pub fits-whole-requires : goal.fits-whole-requires
fits-whole-requires c = placed_fits (triple c.args.job.nx c.args.job.ny c.args.job.nz) c.args.cuts.now (sent c.args.cells.now) c.args.b c.requires _ _ c.source_of-from.ensures _ c.block_count-count.ensures

pub judge_map-requires : goal.judge_map-requires
judge_map-requires c = (placed_sized (triple c.args.job.nx c.args.job.ny c.args.job.nz) c.args.cuts.now (sent c.args.cells.now) c.args.b c.requires _ _ c.source_of-from.ensures, fits_size _ _ _ _ _ _ _ c.fits-whole.ensures)

pub returns-in_err-judge_map : goal.returns-in_err-judge_map
returns-in_err-judge_map c t v h =
    rw (err_number _ _ c.from_residual.ensures)
    (late_map c.args.job c.args.cuts.now c.args.tables.now (sent c.args.cells.now) c.args.b c.args.m.now c.args.places c.requires _ c.lengths_one.ensures c.if-not-lengths_one.false _ c.source_of-from.ensures _ c.lengths-lengths.ensures _ c.block_count-count.ensures _ c.fits-whole.ensures _ c.in_err-judge_map.ensures t v h)

pub all_stand-requires : goal.all_stand-requires
all_stand-requires c = placed_sized (triple c.args.job.nx c.args.job.ny c.args.job.nz) c.args.cuts.now (sent c.args.cells.now) c.args.b c.requires _ _ c.source_of-from.ensures

pub returns-then-not-all_stand : goal.returns-then-not-all_stand
unfolding number
returns-then-not-all_stand c =
    late_last c.args.job c.args.cuts.now c.args.tables.now (sent c.args.cells.now) c.args.b c.args.m.now c.args.places c.requires _ c.lengths_one.ensures c.if-not-lengths_one.false _ c.source_of-from.ensures _ c.lengths-lengths.ensures _ c.block_count-count.ensures _ c.fits-whole.ensures c.in_ok-judge_map.ensures
    _ c.all_stand.ensures 8 (rw c.if-not-all_stand.true refl)

pub returns : goal.returns
returns c =
    late_last c.args.job c.args.cuts.now c.args.tables.now (sent c.args.cells.now) c.args.b c.args.m.now c.args.places c.requires _ c.lengths_one.ensures c.if-not-lengths_one.false _ c.source_of-from.ensures _ c.lengths-lengths.ensures _ c.block_count-count.ensures _ c.fits-whole.ensures c.in_ok-judge_map.ensures
    _ c.all_stand.ensures 0 (rw c.if-not-all_stand.false refl)
