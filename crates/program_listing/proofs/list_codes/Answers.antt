-- A tray has room for the cells.
use Rattle.std.proofs.Common.{arith, sym}
use Rattle.std.proofs.lemmas.List.{length-take-le}
use Rattle.cells.proofs.ExtentLaws.{cells_high}
use Rattle.program_listing.proofs.list_codes.Goals as goal

pub slice_bounds-map-end : goal.slice_bounds-map-end
slice_bounds-map-end g c = omega (arith, c.grid_cells-cells.ensures, cells_high c.requires.0, c.filled-map.ensures)

pub slice_bounds-list-end-2 : goal.slice_bounds-list-end-2
slice_bounds-list-end-2 g c = sym (length-take-le _ _ (omega (arith, c.grid_cells-cells.ensures, cells_high c.requires.0, c.filled-map.ensures)))

pub slice_bounds-work-end : goal.slice_bounds-work-end
slice_bounds-work-end g c = omega (arith, c.grid_cells-cells.ensures, cells_high c.requires.0, c.filled-work.ensures)

pub slice_bounds-list-end-3 : goal.slice_bounds-list-end-3
slice_bounds-list-end-3 g c = sym (length-take-le _ _ (omega (arith, c.grid_cells-cells.ensures, cells_high c.requires.0, c.filled-work.ensures)))
