-- What is filled in, and what a refusal leaves.
use Rattle.reading_cells.specs.Inner.{sent}
use Rattle.reading_cells.proofs.FillLaws.{filling_refused, filling_bounded, filling_done}
use Rattle.reading_cells.proofs.fill_cells.Goals as goal

pub returns-in_err-refuse : goal.returns-in_err-refuse
returns-in_err-refuse c = filling_refused c.args.job c.args.cuts.now c.args.tables.now (sent c.args.cells.now) c.args.block c.args.m.now c.args.answers.now _ c.in_err-refuse.ensures c.from_residual.result c.from_residual.ensures

pub fill_answers-requires : goal.fill_answers-requires
fill_answers-requires c = filling_bounded c.args.job c.args.cuts.now c.args.tables.now (sent c.args.cells.now) c.args.block c.args.m.now c.args.answers.now c.in_ok-refuse.ensures _ c.source_of-from.ensures

pub returns : goal.returns
returns c = filling_done c.args.job c.args.cuts.now c.args.tables.now (sent c.args.cells.now) c.args.block c.args.m.now c.args.answers.now c.in_ok-refuse.ensures _ c.source_of-from.ensures _ c.fill_answers.ensures
