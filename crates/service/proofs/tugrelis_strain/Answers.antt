use Rattle.service.proofs.ExportLaws.{strain_exported}
use Rattle.service.proofs.tugrelis_strain.Goals as goal

pub returns : goal.returns
returns c = rw c.number_of.ensures (strain_exported _ _ _ _ _ _ _ _ _ _ _ _ _ _ _ c.joining.ensures c.strain-answer.ensures)
