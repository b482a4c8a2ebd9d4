-- A turn stores the next cell, if it is a point.
use Rattle.std.proofs.Common.{arith, refl}
use Rattle.cells.specs.Grid.{sides}
use Rattle.lines.specs.Lines.{line_y, line_z}
use Rattle.lines.proofs.LineLaws.{order_tests}
use Rattle.lines.proofs.WalkLaws.{cell_sum, cell_first, cell_next, cell_last}
use Rattle.pass_survey.specs.Survey.{on_line}
use Rattle.pass_enrol.proofs.KeyLaws.{along_line, along_here}
use Rattle.pass_enrol.proofs.PlaceLaws.{shift_in_lem, line_in}
use Rattle.pass_point.proofs.StoreLaws.{left_all, left_none, left_room, left_next}
use Rattle.pass_point.proofs.store_line.Goals as goal

pub line_with-line-requires : goal.line_with-line-requires
unfolding sides line_y line_z
line_with-line-requires c = (c.requires.0.sized, c.requires.3, refl)

pub embed-first-requires : goal.embed-first-requires
unfolding sides
embed-first-requires c = (c.requires.0.whole, shift_in_lem c.requires.0 _ (line_in _ _ (omega (arith, c.requires.0.sized)) c.requires.3))

pub loop-k-init : goal.loop-k-init
unfolding on_line
loop-k-init c = left_all _ _ _ _ _ _ _ _ _ _ _ (cell_first c.line_with-line.ensures (order_tests _ 0 _ (omega arith)))

pub overflow_add-line : goal.overflow_add-line
overflow_add-line c = record { fits = cell_sum c.line_with-line.ensures c.loop-k-test.true c.requires.0.sized c.requires.3 }

pub overflow_add-first : goal.overflow_add-first
overflow_add-first c =
    let h = along_here {j = 0} (along_line c.requires.0 c.requires.1 (omega arith) c.requires.3 c.line_with-line.ensures c.embed-first.ensures) c.loop-k-test.true in
    record { fits = omega (arith, h.high) }

pub store_cell-n-requires : goal.store_cell-n-requires
store_cell-n-requires c =
    let h = along_here {j = 0} (along_line c.requires.0 c.requires.1 (omega arith) c.requires.3 c.line_with-line.ensures c.embed-first.ensures) c.loop-k-test.true in
    let rest = cell_next c.line_with-line.ensures (order_tests _ 0 _ (omega arith)) c.loop-k-test.true in (
      record { sized = c.requires.0.sized; size = c.requires.1; within = h.within; level = h.level },
      c.requires.2,
      h.position,
      h.high,
      left_room _ _ _ _ _ _ _ _ _ _ _ _ _ _ c.loop-k.invariant _ _ rest c.requires.4,
    )

pub loop-k-preserved : goal.loop-k-preserved
loop-k-preserved c =
    let rest = cell_next c.line_with-line.ensures (order_tests _ 0 _ (omega arith)) c.loop-k-test.true in
    left_next _ _ _ _ _ _ _ _ _ _ _ _ _ _ c.loop-k.invariant _ _ rest _ _ _ c.store_cell-n.ensures

pub returns : goal.returns
returns c = left_none _ _ _ _ _ _ _ _ _ _ _ _ _ _ c.loop-k.invariant (cell_last c.line_with-line.ensures (order_tests _ 0 _ (omega arith)) c.loop-k-test.false)
