-- The cells from the k-th on have written their keys.
use Rattle.std.proofs.Common.{◌≡◌}
use lib.Dec.{eqb}
use Rattle.cells.specs.Grid.{order}
use Rattle.lines.proofs.WalkLaws.{rest_of}
use Rattle.pass_enrol.specs.EnrolledRows.{keyed}
use Rattle.pass_enrol.proofs.key_line.Given as goal

abbrev pub invariant-loop-k : goal.invariant-loop-k
invariant-loop-k l = l.keys ≡ keyed l.fn.v l.fn.block l.b l.map l.from (rest_of (λ c. eqb (order l.fn.block.size c) l.j) l.line l.k) l.initial.keys
