-- The tests in their order, by what the code finds.
use Rattle.std.proofs.Common.{ap, sym, ◌∙◌, true≢false}
use Rattle.cells.specs.Box.{triple}
use Rattle.cell_calls.specs.Cells.{all_in_grid}
use Rattle.reading_cells.specs.Inner.{sent}
use Rattle.reading_cells.proofs.OwnLaws.{place_outside, place_no_block, place_some}
use Rattle.reading_cells.proofs.placed.Goals.{then-all_in_grid, else-all_in_grid}
use Rattle.reading_cells.proofs.placed.Goals as goal

pub returns-then-has_block : goal.returns-then-has_block
returns-then-has_block c =
    elim c.if-all_in_grid.branch [
      | then-all_in_grid w ↦ place_some (triple c.args.job.nx c.args.job.ny c.args.job.nz) c.args.cuts.now (sent c.args.cells.now) c.args.b c.requires _ (c.all_in_grid.ensures ∙ ap (λ e. all_in_grid e (sent c.args.cells.now)) c.extents.ensures) w.if-all_in_grid.true
          _ w.has_block.ensures (sym w.value-is ∙ c.if-has_block.true) _ _ c.source_of.ensures _ c.some_own.ensures
      | else-all_in_grid w ↦ absurd (true≢false (sym c.if-has_block.true ∙ w.value-is ∙ w.if-all_in_grid.false))
    ]

pub returns-else-has_block : goal.returns-else-has_block
returns-else-has_block c =
    elim c.if-all_in_grid.branch [
      | then-all_in_grid w ↦ c.if-has_block.false ∙ place_no_block (triple c.args.job.nx c.args.job.ny c.args.job.nz) c.args.cuts.now (sent c.args.cells.now) c.args.b c.requires _ (c.all_in_grid.ensures ∙ ap (λ e. all_in_grid e (sent c.args.cells.now)) c.extents.ensures) w.if-all_in_grid.true
          _ w.has_block.ensures (sym w.value-is ∙ c.if-has_block.false)
      | else-all_in_grid w ↦ c.if-has_block.false ∙ place_outside (triple c.args.job.nx c.args.job.ny c.args.job.nz) c.args.cuts.now (sent c.args.cells.now) c.args.b c.requires _ (c.all_in_grid.ensures ∙ ap (λ e. all_in_grid e (sent c.args.cells.now)) c.extents.ensures) w.if-all_in_grid.false
    ]
