-- The survey so far and the lines from l on give that of the map.
use Rattle.pass_survey.proofs.SurveyLaws.{Looked}
use Rattle.pass_survey.proofs.survey_map.Given as goal

abbrev pub invariant-loop-l : goal.invariant-loop-l
invariant-loop-l l = Looked l.e l.map l.l l.s
