-- The tests in their order, by what the code finds.
use Rattle.std.proofs.Common.{refl, ◌∙◌}
use Rattle.refusals.specs.Refusals.{number}
use Rattle.refusals.proofs.RefusalLaws.{err_number}
use Rattle.reading_blocks.specs.Marks.{lists_of}
use Rattle.reading_blocks.proofs.RequestLaws.{request_first, request_4, request_6, request_last}
use Rattle.reading_blocks.proofs.refuse.Goals as goal

pub returns-in_err-opened : goal.returns-in_err-opened
returns-in_err-opened c t w h = err_number _ _ c.from_residual.ensures ∙ request_first c.args.job c.args.cuts.now _ _ _ c.in_err-opened.ensures t w h

pub returns-then-not-all_in_grid : goal.returns-then-not-all_in_grid
unfolding number
returns-then-not-all_in_grid c = request_4 c.args.job c.args.cuts.now (lists_of c.args.cells.now) _ c.in_ok-opened.ensures _ c.extents.ensures _ c.all_in_grid.ensures c.if-not-all_in_grid.true

pub returns-then-not-lengths_one : goal.returns-then-not-lengths_one
unfolding number
returns-then-not-lengths_one c =
    request_6 c.args.job c.args.cuts.now (lists_of c.args.cells.now) _ c.in_ok-opened.ensures _ c.extents.ensures _ c.all_in_grid.ensures c.if-not-all_in_grid.false _ c.lengths_one.ensures c.if-not-lengths_one.true

pub returns-then-not-tallies_fit : goal.returns-then-not-tallies_fit
unfolding number
returns-then-not-tallies_fit c =
    request_last c.args.job c.args.cuts.now (lists_of c.args.cells.now) _ c.in_ok-opened.ensures _ c.extents.ensures _ c.all_in_grid.ensures c.if-not-all_in_grid.false _ c.lengths_one.ensures c.if-not-lengths_one.false _ c.tallies_fit.ensures 8 (rw c.if-not-tallies_fit.true refl)

pub returns : goal.returns
returns c =
    request_last c.args.job c.args.cuts.now (lists_of c.args.cells.now) _ c.in_ok-opened.ensures _ c.extents.ensures _ c.all_in_grid.ensures c.if-not-all_in_grid.false _ c.lengths_one.ensures c.if-not-lengths_one.false _ c.tallies_fit.ensures 0 (rw c.if-not-tallies_fit.false refl)
