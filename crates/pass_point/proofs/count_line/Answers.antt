-- A turn counts the next cell, if it is a point.
use Rattle.std.proofs.Common.{arith}
use Rattle.lines.proofs.LineLaws.{order_tests}
use Rattle.lines.proofs.WalkLaws.{cell_within, cell_walks, cell_sum, cell_first, cell_next, cell_last, walk_inside, walk_order}
use Rattle.pass_survey.specs.Survey.{on_line}
use Rattle.pass_point.proofs.PointLaws.{count_one, counted_next, counted_all}
use Rattle.pass_point.proofs.count_line.Goals as goal

pub loop-k-init : goal.loop-k-init
unfolding on_line
loop-k-init c = rw (cell_first c.line_at-line.ensures (order_tests _ 0 _ (omega arith)))

pub overflow_add-line-in-loop-k : goal.overflow_add-line-in-loop-k
overflow_add-line-in-loop-k c = record { fits = cell_sum c.line_at-line.ensures c.loop-k-test.true c.requires.0 c.requires.2 }

pub found_row-row-requires : goal.found_row-row-requires
found_row-row-requires c =
    let h = cell_within c.line_at-line.ensures c.loop-k-test.true in
    record {
      sized = c.requires.0;
      size = c.requires.1;
      within = walk_inside c.line_at-line.ensures _ h c.requires.2;
      level = walk_order c.line_at-line.ensures _ h (cell_walks c.line_at-line.ensures c.loop-k.k);
    }

pub overflow_add-n : goal.overflow_add-n
overflow_add-n c =
    let rest = cell_next c.line_at-line.ensures (order_tests _ 0 _ (omega arith)) c.loop-k-test.true in
    let one = count_one _ _ _ _ _ _ c.found_row-row.ensures _ c.from-n.ensures in
    let more = counted_next _ _ _ _ _ _ _ _ _ _ rest one c.loop-k.invariant in
    record { fits = omega (arith, more, c.requires.3) }

pub loop-k-preserved : goal.loop-k-preserved
loop-k-preserved c =
    let rest = cell_next c.line_at-line.ensures (order_tests _ 0 _ (omega arith)) c.loop-k-test.true in
    let one = count_one _ _ _ _ _ _ c.found_row-row.ensures _ c.from-n.ensures in
    counted_next _ _ _ _ _ _ _ _ _ _ rest one c.loop-k.invariant

pub returns : goal.returns
returns c = counted_all _ _ _ _ _ _ _ (cell_last c.line_at-line.ensures (order_tests _ 0 _ (omega arith)) c.loop-k-test.false) c.loop-k.invariant
