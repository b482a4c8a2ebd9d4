use Rattle.service.proofs.ExportLaws.{reading_stored, reading_refused}
use Rattle.service.proofs.tugrelis_read_record.Goals as goal

pub returns-in-Ok : goal.returns-in-Ok
returns-in-Ok c = rw c.store_head.ensures (reading_stored _ _ _ _ c.in-Ok.ensures.whole)

pub returns-in-Err : goal.returns-in-Err
returns-in-Err c = rw c.from.ensures (reading_refused _ _ _ _ c.in-Err.ensures.whole)
