use mathlib.Core.Path.{refl}
use Rattle.service.proofs.ExportLaws.{refused, total_stored, total_refused}
use Rattle.service.proofs.tugrelis_total.Goals as goal

pub returns-in-Ok : goal.returns-in-Ok
returns-in-Ok c = rw c.six_counts.ensures (total_stored _ _ _ _ _ _ _ _ _ _ _ _ c.joining.ensures c.in-Ok.ensures refl)

pub returns-in-Err : goal.returns-in-Err
returns-in-Err c = rw c.from.ensures (total_refused _ _ _ _ _ _ _ _ _ _ _ _ c.joining.ensures c.in-Err.ensures (refused _))
