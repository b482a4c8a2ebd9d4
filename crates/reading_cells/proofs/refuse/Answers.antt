-- The tests in their order, by what the code finds.
use Rattle.refusals.specs.Refusals.{number}
use Rattle.refusals.proofs.RefusalLaws.{err_number}
use Rattle.reading_cells.specs.Inner.{sent}
use Rattle.reading_cells.proofs.FillLaws.{fill_first, fill_good, fill_4, fill_placed, fill_late}
use Rattle.reading_cells.proofs.refuse.Goals as goal

pub returns-in_err-opened : goal.returns-in_err-opened
returns-in_err-opened c t v h = rw (err_number _ _ c.from_residual.ensures) (fill_first c.args.job c.args.cuts.now c.args.tables.now (sent c.args.cells.now) c.args.b c.args.m.now c.args.places _ c.in_err-opened.ensures t v h)

pub placed-requires : goal.placed-requires
placed-requires c = fill_good c.args.job c.args.cuts.now c.args.tables.now (sent c.args.cells.now) c.args.b c.args.m.now c.args.places c.in_ok-opened.ensures

pub returns-then-not-placed : goal.returns-then-not-placed
unfolding number
returns-then-not-placed c = fill_4 c.args.job c.args.cuts.now c.args.tables.now (sent c.args.cells.now) c.args.b c.args.m.now c.args.places c.in_ok-opened.ensures _ c.placed.ensures c.if-not-placed.true

pub judged-requires : goal.judged-requires
judged-requires c = fill_placed c.args.job c.args.cuts.now c.args.tables.now (sent c.args.cells.now) c.args.b c.args.m.now c.args.places c.in_ok-opened.ensures _ c.placed.ensures c.if-not-placed.false

pub returns : goal.returns
returns c = fill_late c.args.job c.args.cuts.now c.args.tables.now (sent c.args.cells.now) c.args.b c.args.m.now c.args.places c.in_ok-opened.ensures _ c.placed.ensures c.if-not-placed.false _ c.judged.ensures
