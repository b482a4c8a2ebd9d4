use Rattle.service.proofs.ExportLaws.{fill_exported}
use Rattle.service.proofs.tugrelis_fill_cells.Goals as goal

pub returns : goal.returns
returns c = λ t. rw c.number_of.ensures (fill_exported _ _ _ _ _ _ _ _ _ _ _ _ _ c.joining.ensures (c.fill_cells.ensures t))
