use Rattle.service.proofs.ExportLaws.{label_exported}
use Rattle.service.proofs.tugrelis_label.Goals as goal

pub returns : goal.returns
returns c = label_exported _ _ _ _ _ _ _ (rw c.triple.ensures at c.label-answer.ensures) c.store_answer.ensures c.number_of.ensures
