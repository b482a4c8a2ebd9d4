-- A number that is not 0 has a root, below the length of the table.
use Rattle.std.proofs.Common.{arith}
use Rattle.pass_cross.proofs.ReadLaws.{read_none, read_some, root_fits}
use Rattle.pass_cross.proofs.read_through.Goals as goal

pub returns-then-n-eq0 : goal.returns-then-n-eq0
returns-then-n-eq0 c = search read_none

pub overflow_add-result : goal.overflow_add-result
overflow_add-result c = record { fits = omega (arith, root_fits _ _ _ _ _ c.if-n-eq0.false c.find_halving.ensures c.requires.0) }

pub returns : goal.returns
returns c = search read_some
