-- The tests in the order of the code.
use Rattle.std.proofs.Common.{◌∙◌, arith, sym}
use Rattle.extents.proofs.SizeLaws.{sized_at, sized_within}
use Rattle.refusals.specs.Refusals.{number}
use Rattle.records.specs.Record.{extents_of, origin_of}
use Rattle.reader.proofs.LoadedLaws.{refusal_short, refusal_size, refusal_tray, refusal_last}
use Rattle.reader.proofs.judge.Goals as goal

pub returns-then-bytes-lt12 : goal.returns-then-bytes-lt12
unfolding number
returns-then-bytes-lt12 c = (sym (refusal_short _ _ c.if-bytes-lt12.true), tt)

pub returns-then-off_place : goal.returns-then-off_place
unfolding number extents_of origin_of
returns-then-off_place c = (sym (refusal_size _ _ c.if-bytes-lt12.false c.three-size.ensures c.three-origin.ensures (sym c.off_place.ensures ∙ c.if-off_place.true)), tt)

pub grid_cells-requires : goal.grid_cells-requires
grid_cells-requires c = sized_within (omega arith) (sized_at _ c.three-origin.result (sym c.off_place.ensures ∙ c.if-off_place.false))

pub returns-then-tray-grid_cells : goal.returns-then-tray-grid_cells
unfolding number extents_of origin_of
returns-then-tray-grid_cells c =
    (sym (refusal_tray _ _ c.if-bytes-lt12.false c.three-size.ensures c.three-origin.ensures (sym c.off_place.ensures ∙ c.if-off_place.false) (λ e. c.if-tray-grid_cells.true (e ∙ sym c.grid_cells.ensures))), tt)

pub is_damaged-requires : goal.is_damaged-requires
is_damaged-requires c = sized_at _ c.three-origin.result (sym c.off_place.ensures ∙ c.if-off_place.false)

pub returns-then-is_damaged : goal.returns-then-is_damaged
unfolding number extents_of origin_of
returns-then-is_damaged c =
    let last = refusal_last _ _ c.if-bytes-lt12.false c.three-size.ensures c.three-origin.ensures (sym c.off_place.ensures ∙ c.if-off_place.false) (c.if-tray-grid_cells.false ∙ c.grid_cells.ensures) in
    (sym (last ∙ rw (sym c.is_damaged.ensures ∙ c.if-is_damaged.true)), tt)

pub returns : goal.returns
unfolding extents_of origin_of
returns c =
    let last = refusal_last _ _ c.if-bytes-lt12.false c.three-size.ensures c.three-origin.ensures (sym c.off_place.ensures ∙ c.if-off_place.false) (c.if-tray-grid_cells.false ∙ c.grid_cells.ensures) in
    (sym (last ∙ rw (sym c.is_damaged.ensures ∙ c.if-is_damaged.false)), record { size = c.three-size.ensures; origin = c.three-origin.ensures; placed = sym c.off_place.ensures ∙ c.if-off_place.false })
