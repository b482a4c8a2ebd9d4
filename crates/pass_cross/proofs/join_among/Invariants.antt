-- The edges among the numbers from i on are still to join.
use Rattle.std.proofs.Common.{drop}
use Rattle.union_find.proofs.LinkLaws.{Left}
use Rattle.pass_cross.specs.Inner.{edges_among}
use Rattle.pass_cross.proofs.join_among.Given as goal

abbrev pub invariant-loop-i : goal.invariant-loop-i
invariant-loop-i l = Left l.initial.links l.links (edges_among l.from l.numbers l.rows) (edges_among l.from (drop l.i l.numbers) (drop l.i l.rows))
