-- The edges from column u on are still to join.
use Rattle.std.proofs.Common.{◌-◌}
use Rattle.lists.specs.Lists.{consecutive}
use Rattle.union_find.proofs.LinkLaws.{Left}
use Rattle.pass_seam.specs.Walks.{join_at, edges_along, row_edges}
use Rattle.pass_seam.proofs.join_row.Given as goal

abbrev pub invariant-loop-u : goal.invariant-loop-u
invariant-loop-u l =
    Left l.initial.links l.links (row_edges l.low.map.now l.low.layer l.high.map.now l.high.layer l.j.odd l.j.from l.j.to l.j.size l.columns l.v)
    (edges_along (join_at l.low.map.now l.low.layer l.high.map.now l.high.layer l.j.odd l.j.from l.j.to l.j.size l.v) (consecutive l.u (l.columns - l.u)))
