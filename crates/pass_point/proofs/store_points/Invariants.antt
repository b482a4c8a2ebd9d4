-- The points from line l on are left.
use Rattle.pass_survey.proofs.SurveyLaws.{from_line}
use Rattle.pass_point.proofs.StoreLaws.{Left}
use Rattle.pass_point.proofs.store_points.Given as goal

abbrev pub invariant-loop-l : goal.invariant-loop-l
invariant-loop-l l =
    Left l.fn.v l.fn.block l.b l.map l.numbers l.from (from_line l.fn.block.size 0 0) l.fn.at l.initial.keys l.initial.rows (from_line l.fn.block.size 0 l.l) l.n l.keys l.rows
