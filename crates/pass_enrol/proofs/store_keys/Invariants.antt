-- The cells from line l on have written their keys.
use Rattle.std.proofs.Common.{◌≡◌}
use Rattle.pass_survey.proofs.SurveyLaws.{from_line}
use Rattle.pass_enrol.specs.EnrolledRows.{keyed}
use Rattle.pass_enrol.proofs.store_keys.Given as goal

abbrev pub invariant-loop-l : goal.invariant-loop-l
invariant-loop-l l = l.keys ≡ keyed l.fn.v l.fn.block l.b l.map l.from (from_line l.fn.block.size l.j l.l) l.initial.keys
