-- The edges at the cells from line l on are still to join.
use mathlib.Core.List.{flat_map}
use Rattle.std.proofs.Common.{◌-◌}
use lib.Dec.{eqb}
use Rattle.union_find.specs.Links.{root}
use Rattle.cells.specs.Grid.{order}
use Rattle.lines.proofs.WalkLaws.{onwards}
use Rattle.pass_cross.specs.CrossEdges.{cross_at, cross_edges}
use Rattle.pass_cross.proofs.CrossLaws.{StillToCross}
use Rattle.pass_cross.proofs.cross_cells.Given as goal

abbrev pub invariant-loop-l : goal.invariant-loop-l
invariant-loop-l l =
    StillToCross l.initial.above l.above l.initial.links l.links (cross_edges l.fn.e l.map l.j (root l.initial.above) l.above_from l.from)
    (flat_map (cross_at l.fn.e l.map (root l.initial.above) l.above_from l.from) (onwards (λ p. eqb (order l.fn.e p) (l.j - 1)) l.fn.e l.l))
