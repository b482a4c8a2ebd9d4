-- What is read, and what a refusal gives.
use Rattle.std.proofs.Common.{ap, ◌∙◌}
use Rattle.cells.specs.Grid.{cells}
use Rattle.job.specs.JobState.{job_by}
use Rattle.reading_total.proofs.TotalLaws.{ready_sized, ready_stands, total_refused, total_accepted}
use Rattle.reading_total.proofs.total.Goals as goal

pub returns-in_err-refuse : goal.returns-in_err-refuse
returns-in_err-refuse c = total_refused c.args.job c.args.cuts.now _ _ _ _ _ c.in_err-refuse.ensures c.from_residual.result c.from_residual.ensures

pub grid_cells-cells-requires : goal.grid_cells-cells-requires
grid_cells-cells-requires c = rw c.extents.ensures (ready_sized (job_by c.args.job c.args.cuts.now) _ _ c.in_ok-refuse.ensures)

pub totals_of-requires : goal.totals_of-requires
totals_of-requires c = ready_stands (job_by c.args.job c.args.cuts.now) _ _ c.in_ok-refuse.ensures _ (c.grid_cells-cells.ensures ∙ ap cells c.extents.ensures)

pub returns : goal.returns
returns c = total_accepted c.args.job c.args.cuts.now _ _ _ _ c.in_ok-refuse.ensures _ c.totals_of.ensures
