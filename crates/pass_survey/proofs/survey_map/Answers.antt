-- A turn takes in the next line.
use Rattle.std.proofs.Common.{arith}
use Rattle.pass_survey.proofs.SurveyLaws.{looked_none, looked_next}
use Rattle.pass_survey.proofs.survey_map.Goals as goal

pub loop-l-init : goal.loop-l-init
loop-l-init c = looked_none _ _

pub loop-l-preserved : goal.loop-l-preserved
loop-l-preserved c = looked_next _ _ _ (omega arith) _ _ c.loop-l.invariant c.take_line-s.ensures
