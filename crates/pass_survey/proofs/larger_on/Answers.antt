-- A turn takes in the next cell of the line's rest.
use Rattle.std.proofs.Common.{◌∙◌, arith, rules}
use Rattle.lines.proofs.LineLaws.{order_tests}
use Rattle.lines.proofs.WalkLaws.{cell_sum, cell_read, cell_first, cell_next, cell_last}
use Rattle.pass_survey.specs.Survey.{on_line}
use Rattle.pass_survey.proofs.SurveyLaws.{most_next, most_none}
use Rattle.pass_survey.proofs.larger_on.Goals as goal

pub loop-k-init : goal.loop-k-init
unfolding on_line
loop-k-init c = rw (cell_first c.line_with-line.ensures (order_tests _ _ _ (omega arith)))

pub overflow_add-line-in-loop-k : goal.overflow_add-line-in-loop-k
overflow_add-line-in-loop-k c = search cell_sum

pub offset_bounds-map-line : goal.offset_bounds-map-line
offset_bounds-map-line c = search (rules, cell_read)

pub bounds-map-line : goal.bounds-map-line
bounds-map-line c = search cell_read

pub loop-k-preserved : goal.loop-k-preserved
loop-k-preserved c =
    let rest = cell_next c.line_with-line.ensures (order_tests _ _ _ (omega arith)) c.loop-k-test.true in
    most_next _ _ _ _ _ c.max-m.ensures ∙ (rw rest at c.loop-k.invariant)

pub returns : goal.returns
returns c =
    most_none _ _ ∙ (rw (cell_last c.line_with-line.ensures (order_tests _ _ _ (omega arith)) c.loop-k-test.false) at c.loop-k.invariant)
