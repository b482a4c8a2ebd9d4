-- The edges at the cells from the k-th on are still to join.
use mathlib.Core.List.{flat_map}
use Rattle.std.proofs.Common.{◌-◌}
use lib.Dec.{eqb}
use Rattle.union_find.specs.Links.{root}
use Rattle.cells.specs.Grid.{order}
use Rattle.lines.proofs.WalkLaws.{rest_of}
use Rattle.pass_cross.specs.CrossEdges.{cross_at}
use Rattle.pass_cross.specs.Inner.{line_edges}
use Rattle.pass_cross.proofs.CrossLaws.{StillToCross}
use Rattle.pass_cross.proofs.cross_line.Given as goal

abbrev pub invariant-loop-k : goal.invariant-loop-k
invariant-loop-k l =
    StillToCross l.initial.above l.above l.initial.links l.links (line_edges (cross_at l.fn.e l.map (root l.initial.above) l.above_from l.from) l.fn.e (l.fn.j - 1) l.fn.l)
    (flat_map (cross_at l.fn.e l.map (root l.initial.above) l.above_from l.from) (rest_of (λ p. eqb (order l.fn.e p) (l.fn.j - 1)) l.line l.k))
