-- The edges at the cells from the k-th on are still to join.
use Rattle.std.proofs.Common.{◌-◌, ◌*◌}
use Rattle.lists.specs.Lists.{consecutive, keep}
use Rattle.labels.specs.Number.{edges_at, order_below}
use Rattle.lines.proofs.WalkLaws.{rest_of}
use Rattle.union_find.proofs.LinkLaws.{Left}
use Rattle.pass_join.proofs.join_line.Given as goal

abbrev pub invariant-loop-k : goal.invariant-loop-k
invariant-loop-k l =
    let e = l.e in
    let f = order_below e l.fn.j in
    Left l.initial.links l.links (edges_at e l.map (keep f (consecutive (l.fn.l * (2 * e.x - 1)) (2 * e.x - 1)))) (edges_at e l.map (rest_of f l.line l.k))
