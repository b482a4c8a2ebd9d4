-- The edges from the i-th cell to those from k on are still to join.
use Rattle.std.proofs.Common.{◌+◌, drop}
use Rattle.union_find.proofs.LinkLaws.{Left}
use Rattle.pass_join.specs.JoinTrays.{alike_to}
use Rattle.pass_join.specs.Around.{positions, rows_of}
use Rattle.pass_join.proofs.join_from.Given as goal

abbrev pub invariant-loop-k : goal.invariant-loop-k
invariant-loop-k l =
    let ps = positions l.cells in
    let rs = rows_of l.cells in
    Left l.initial.links l.links (alike_to l.cell.at l.cell.row (drop (l.i + 1) ps) (drop (l.i + 1) rs)) (alike_to l.cell.at l.cell.row (drop l.k ps) (drop l.k rs))
