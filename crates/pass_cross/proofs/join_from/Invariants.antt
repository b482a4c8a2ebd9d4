-- The edges from the i-th number to those from k on are still to join.
use Rattle.std.proofs.Common.{suc, drop}
use Rattle.union_find.proofs.LinkLaws.{Left}
use Rattle.pass_cross.specs.Inner.{edges_to}
use Rattle.pass_cross.proofs.join_from.Given as goal

abbrev pub invariant-loop-k : goal.invariant-loop-k
invariant-loop-k l = Left l.initial.links l.links (edges_to l.from l.x l.r (drop (suc l.i) l.numbers) (drop (suc l.i) l.rows)) (edges_to l.from l.x l.r (drop l.k l.numbers) (drop l.k l.rows))
