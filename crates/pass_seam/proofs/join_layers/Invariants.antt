-- The edges from row v on are still to join.
use Rattle.std.proofs.Common.{◌-◌}
use Rattle.lists.specs.Lists.{consecutive}
use Rattle.union_find.proofs.LinkLaws.{Left}
use Rattle.pass_seam.specs.Walks.{edges_along, row_edges, layer_edges}
use Rattle.pass_seam.proofs.join_layers.Given as goal

abbrev pub invariant-loop-v : goal.invariant-loop-v
invariant-loop-v l =
    Left l.initial.links l.links (layer_edges l.low.map.now l.low.layer l.high.map.now l.high.layer l.j.odd l.j.from l.j.to l.j.size l.columns l.rows)
    (edges_along (row_edges l.low.map.now l.low.layer l.high.map.now l.high.layer l.j.odd l.j.from l.j.to l.j.size l.columns) (consecutive l.v (l.rows - l.v)))
