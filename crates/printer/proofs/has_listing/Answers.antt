use Rattle.std.proofs.Common.{arith, sym, ◌∙◌}
use Rattle.extents.proofs.SizeLaws.{sized_of, sized_within}
use Rattle.printer.proofs.has_listing.Goals as goal

pub grid_cells-cells-requires : goal.grid_cells-cells-requires
grid_cells-cells-requires c = sized_within (omega arith) (sized_of 8 _ (sym c.off_size.ensures ∙ c.if-off_size.false))

pub too_many-requires : goal.too_many-requires
too_many-requires c = record { sized = sized_of 8 _ (sym c.off_size.ensures ∙ c.if-off_size.false); whole = c.if-marks-cells.true.0 ∙ c.grid_cells-cells.ensures; below = omega arith }
