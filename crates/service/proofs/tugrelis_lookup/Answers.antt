use mathlib.Core.Path.{refl}
use Rattle.service.proofs.ExportLaws.{refused, lookup_stored, lookup_refused}
use Rattle.service.proofs.tugrelis_lookup.Goals as goal

pub returns-in-Ok : goal.returns-in-Ok
returns-in-Ok c = λ t. lookup_stored _ _ _ _ _ _ _ _ _ _ _ c.joining.ensures (c.in-Ok.ensures t) refl

pub returns-in-Err : goal.returns-in-Err
returns-in-Err c = λ t. rw c.from.ensures (lookup_refused _ _ _ _ _ _ _ _ _ _ _ c.joining.ensures (c.in-Err.ensures t) (refused _))
