-- The edges among the cells from i on are still to join.
use Rattle.std.proofs.Common.{drop}
use Rattle.union_find.proofs.LinkLaws.{Left}
use Rattle.pass_join.specs.JoinTrays.{alike_pairs}
use Rattle.pass_join.specs.Around.{positions, rows_of}
use Rattle.pass_join.proofs.join_alike.Given as goal

abbrev pub invariant-loop-i : goal.invariant-loop-i
invariant-loop-i l =
    let ps = positions l.cells in
    let rs = rows_of l.cells in
    Left l.initial.links l.links (alike_pairs ps rs) (alike_pairs (drop l.i ps) (drop l.i rs))
