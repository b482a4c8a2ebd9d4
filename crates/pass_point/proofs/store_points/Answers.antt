-- A turn stores the points of the next line.
use Rattle.std.proofs.Common.{arith}
use Rattle.pass_survey.proofs.SurveyLaws.{from_next, from_last}
use Rattle.pass_point.proofs.PointLaws.{found_all}
use Rattle.pass_point.proofs.StoreLaws.{left_none, left_room, left_next, all_room, stored_keys, stored_rows}
use Rattle.pass_point.proofs.store_points.Goals as goal

pub store_line-n-requires : goal.store_line-n-requires
store_line-n-requires c = (c.requires.0, c.requires.1, c.requires.2, omega arith, left_room _ _ _ _ _ _ _ _ _ _ _ _ _ _ c.loop-l.invariant _ _ (from_next _ _ _ (omega arith)) (all_room _ _ _ _ _ _ _ c.requires.3))

pub loop-l-preserved : goal.loop-l-preserved
loop-l-preserved c = left_next _ _ _ _ _ _ _ _ _ _ _ _ _ _ c.loop-l.invariant _ _ (from_next _ _ _ (omega arith)) _ _ _ c.store_line-n.ensures

pub returns-clause-keys : goal.returns-clause-keys
returns-clause-keys c = stored_keys _ _ _ _ _ _ _ (found_all _ _ _ _) _ _ _ _ _ _ (left_none _ _ _ _ _ _ _ _ _ _ _ _ _ _ c.loop-l.invariant (from_last _ _ _ (omega arith)))

pub returns-clause-rows : goal.returns-clause-rows
returns-clause-rows c = stored_rows _ _ _ _ _ _ _ (found_all _ _ _ _) _ _ _ _ _ _ (left_none _ _ _ _ _ _ _ _ _ _ _ _ _ _ c.loop-l.invariant (from_last _ _ _ (omega arith)))
