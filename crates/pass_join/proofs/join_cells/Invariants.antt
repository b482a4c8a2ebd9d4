-- The edges at the cells from line l on are still to join.
use Rattle.labels.specs.Number.{edges_at, order_below, edges}
use Rattle.lines.proofs.WalkLaws.{onwards}
use Rattle.union_find.proofs.LinkLaws.{Left}
use Rattle.pass_join.proofs.join_cells.Given as goal

abbrev pub invariant-loop-l : goal.invariant-loop-l
invariant-loop-l l = Left l.initial.links l.links (edges l.e l.map l.j) (edges_at l.e l.map (onwards (order_below l.e l.j) l.e l.l))
