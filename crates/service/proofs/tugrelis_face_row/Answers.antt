use Rattle.service.proofs.ExportLaws.{row_exported}
use Rattle.service.proofs.tugrelis_face_row.Goals as goal

pub returns : goal.returns
returns c = row_exported _ _ _ _ _ _ _ _ _ _ _ c.job_in.ensures c.read_row.ensures
