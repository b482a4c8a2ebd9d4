-- The tests in the order of the code.
use Rattle.std.proofs.Common.{◌≡◌, ◌∙◌, false, arith, sym}
use Rattle.cells.specs.Extents.{off_place}
use Rattle.cells.proofs.ExtentLaws.{cells_high}
use Rattle.extents.proofs.SizeLaws.{sized_at, sized_within}
use Rattle.refusals.specs.Refusals.{number}
use Rattle.writer.proofs.WriteLaws.{off_size_given, wrong_map_given, wrong_tray_given, none_given}
use Rattle.writer.proofs.judge.Goals.{then-map-grid_cells-via-then-map-grid_cells, then-map-grid_cells-via-else-map-grid_cells+then-tray-record_length}
use Rattle.writer.proofs.judge.Goals as goal

pub returns-then-off_place : goal.returns-then-off_place
unfolding number
returns-then-off_place c = off_size_given _ _ _ _ (sym c.off_place.ensures ∙ c.if-off_place.true)

pub grid_cells-requires : goal.grid_cells-requires
grid_cells-requires c = sized_within (omega arith) (sized_at _ _ (sym c.off_place.ensures ∙ c.if-off_place.false))

pub record_length-requires : goal.record_length-requires
record_length-requires c = omega (arith, cells_high (sized_at _ _ (sym c.off_place.ensures ∙ c.if-off_place.false)), c.if-map-grid_cells.false, c.grid_cells.ensures)

pub returns-then-map-grid_cells : goal.returns-then-map-grid_cells
unfolding number
returns-then-map-grid_cells c =
    let p : off_place c.args.e c.args.o ≡ false = sym c.off_place.ensures ∙ c.if-off_place.false in
    elim c.then-map-grid_cells.branch [
      | then-map-grid_cells-via-then-map-grid_cells w ↦ wrong_map_given _ _ _ _ p (λ h. w.if-map-grid_cells.true (h ∙ sym c.grid_cells.ensures))
      | then-map-grid_cells-via-else-map-grid_cells+then-tray-record_length w ↦ wrong_tray_given _ _ _ _ p (w.if-map-grid_cells.false ∙ c.grid_cells.ensures) _ w.record_length.ensures w.if-tray-record_length.true
    ]

pub returns : goal.returns
returns c =
    none_given _ _ _ _ (sym c.off_place.ensures ∙ c.if-off_place.false) (c.if-map-grid_cells.false ∙ c.grid_cells.ensures) _ c.record_length.ensures c.if-tray-record_length.false
