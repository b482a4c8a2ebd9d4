-- Six zeros have a row of zeros.
use Rattle.pass_point.proofs.PointLaws.{final_idle}
use Rattle.pass_point.proofs.row_over.Goals as goal

pub returns-then-eq : goal.returns-then-eq
returns-then-eq c = final_idle _ _ _ _ c.eq.ensures c.if-eq.true
