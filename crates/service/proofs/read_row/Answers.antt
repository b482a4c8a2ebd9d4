use Rattle.service.proofs.ExportLaws.{refused, row_refused}
use Rattle.service.proofs.read_row.Goals as goal

pub returns-in-Err : goal.returns-in-Err
returns-in-Err c = λ cx cy cz t. rw c.from.ensures (row_refused _ _ _ _ _ _ _ _ c.in-Err.ensures (refused _) _ cx cy cz t)
