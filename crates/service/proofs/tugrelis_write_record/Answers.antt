use Rattle.service.proofs.ExportLaws.{writing_stored, writing_refused}
use Rattle.service.proofs.tugrelis_write_record.Goals as goal

pub returns-in-Ok : goal.returns-in-Ok
returns-in-Ok c = writing_stored _ _ _ _ (rw (c.triple.ensures, c.triple-2.ensures) at c.in-Ok.ensures)

pub returns-in-Err : goal.returns-in-Err
returns-in-Err c = rw c.from.ensures (writing_refused _ _ _ _ (rw (c.triple.ensures, c.triple-2.ensures) at c.in-Err.ensures))
