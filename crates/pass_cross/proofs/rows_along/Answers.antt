-- Two rows, one after the other.
use Rattle.pass_cross.proofs.ReadLaws.{rows_two}
use Rattle.pass_cross.proofs.rows_along.Goals as goal

pub returns : goal.returns
returns c = search rows_two
