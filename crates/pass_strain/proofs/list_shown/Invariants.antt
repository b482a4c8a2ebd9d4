-- The list after the first k cells.
use Rattle.std.proofs.Common.{◌+◌, ◌*◌}
use Rattle.pass_strain.proofs.ShownLaws.{Growing}
use Rattle.pass_strain.proofs.list_shown.Given as goal

abbrev pub invariant-loop-k : goal.invariant-loop-k
invariant-loop-k l = Growing l.map l.line.base l.fn.line.width l.line.start l.list l.many (l.line.start + 2 * l.k)
