use Rattle.service.proofs.ExportLaws.{step_exported}
use Rattle.service.proofs.tugrelis_point.Goals as goal

pub returns : goal.returns
returns c t = step_exported _ _ _ _ _ _ _ _ _ _ _ c.hand_on.ensures.number c.hand_on.ensures.kept _ c.joining.ensures (c.point-answer.ensures t)
