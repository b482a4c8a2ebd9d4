-- The points so far and those from line l on make the answer.
use Rattle.std.proofs.Common.{◌≡◌, ◌+◌, length}
use Rattle.pass_survey.proofs.SurveyLaws.{from_line}
use Rattle.pass_point.specs.FoundPoints.{found_among, found_cells}
use Rattle.pass_point.proofs.count_points.Given as goal

abbrev pub invariant-loop-l : goal.invariant-loop-l
invariant-loop-l l =
    l.n + length (found_among l.fn.e l.numbers l.from l.map (from_line l.fn.e 0 l.l)) ≡ length (found_cells l.fn.e l.numbers l.from l.map)
