-- The tests in the order of the code.
use Rattle.std.proofs.Common.{◌≡◌, ◌∙◌, false, arith, sym}
use Rattle.cells.specs.Extents.{off_size}
use Rattle.extents.proofs.SizeLaws.{sized_of, sized_within}
use Rattle.refusals.specs.Refusals.{number}
use Rattle.layer_printer.proofs.PrintLaws.{size_given, layer_given, map-given, tray_given, none_given}
use Rattle.layer_printer.proofs.judge.Goals.{then-map-grid_cells-via-then-map-grid_cells, then-map-grid_cells-via-else-map-grid_cells+then-tray-pages_length}
use Rattle.layer_printer.proofs.judge.Goals as goal

pub returns-then-off_size : goal.returns-then-off_size
unfolding number
returns-then-off_size c = size_given _ _ _ _ (sym c.off_size.ensures ∙ c.if-off_size.true)

pub overflow_mul-e : goal.overflow_mul-e
overflow_mul-e c = let s = sized_of 64 c.args.e (sym c.off_size.ensures ∙ c.if-off_size.false) in omega arith

pub overflow_sub-e : goal.overflow_sub-e
overflow_sub-e c = let s = sized_of 64 c.args.e (sym c.off_size.ensures ∙ c.if-off_size.false) in omega arith

pub returns-then-z-e : goal.returns-then-z-e
unfolding number
returns-then-z-e c = layer_given _ _ _ _ (sym c.off_size.ensures ∙ c.if-off_size.false) c.if-z-e.true

pub grid_cells-requires : goal.grid_cells-requires
grid_cells-requires c = sized_within (omega arith) (sized_of 64 _ (sym c.off_size.ensures ∙ c.if-off_size.false))

pub pages_length-requires : goal.pages_length-requires
pages_length-requires c = sized_of 64 _ (sym c.off_size.ensures ∙ c.if-off_size.false)

pub returns-then-map-grid_cells : goal.returns-then-map-grid_cells
unfolding number
returns-then-map-grid_cells c =
    let p : off_size 64 c.args.e ≡ false = sym c.off_size.ensures ∙ c.if-off_size.false in
    elim c.then-map-grid_cells.branch [
      | then-map-grid_cells-via-then-map-grid_cells w ↦ map-given _ _ _ _ p c.if-z-e.false (λ h. w.if-map-grid_cells.true (h ∙ sym c.grid_cells.ensures))
      | then-map-grid_cells-via-else-map-grid_cells+then-tray-pages_length w ↦ tray_given _ _ _ _ p c.if-z-e.false (w.if-map-grid_cells.false ∙ c.grid_cells.ensures) _ w.pages_length.ensures w.if-tray-pages_length.true
    ]

pub returns : goal.returns
returns c =
    none_given _ _ _ _ (sym c.off_size.ensures ∙ c.if-off_size.false) c.if-z-e.false (c.if-map-grid_cells.false ∙ c.grid_cells.ensures) _ c.pages_length.ensures c.if-tray-pages_length.false
