-- All six entries are shifted.
use Rattle.std.proofs.Common.{arith}
use Rattle.pass_enrol.proofs.RowLaws.{all_shifted}
use Rattle.pass_enrol.proofs.shifted_row.Goals as goal

pub returns : goal.returns
returns c = all_shifted _ _ _ _ (omega arith) c.loop-x.invariant.done c.loop-x.invariant.left
