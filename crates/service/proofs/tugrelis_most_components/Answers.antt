use Rattle.service.proofs.ExportLaws.{most_exported}
use Rattle.service.proofs.tugrelis_most_components.Goals as goal

pub returns : goal.returns
returns c = most_exported _ _ _ _ _ (rw c.triple.ensures at c.most_components-answer.ensures) c.store_answer.ensures c.number_of.ensures
