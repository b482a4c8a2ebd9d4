-- A turn joins the edges at the cells of the next line.
use mathlib.Core.List.{flat_map}
use Rattle.std.proofs.Common.{◌-◌, arith}
use lib.Dec.{eqb}
use Rattle.lists.proofs.Flat.{flat_append}
use Rattle.cells.specs.Grid.{sides, order}
use Rattle.labels.specs.Components.{of_order}
use Rattle.lines.proofs.WalkLaws.{lines_first, lines_next, lines_last}
use Rattle.pass_cross.specs.CrossEdges.{cross_at, cross_edges}
use Rattle.pass_cross.specs.Inner.{line_edges}
use Rattle.pass_cross.proofs.CrossLaws.{rest_all, rest_fewer, rest_none}
use Rattle.pass_cross.proofs.cross_cells.Goals as goal

pub loop-l-init : goal.loop-l-init
unfolding cross_edges of_order
loop-l-init c = rw (← lines_first (λ p. eqb (order c.args.e p) (c.args.j - 1)) c.args.e) (rest_all _ _ _)

pub loop-l-preserved : goal.loop-l-preserved
unfolding sides line_edges
loop-l-preserved c =
    let rest = lines_next (λ p. eqb (order c.args.e p) (c.args.j - 1)) c.args.e {l = c.loop-l.l} (omega arith) in
    rest_fewer (λ f. line_edges (cross_at c.args.e c.args.map.now f c.args.above_from c.args.from) c.args.e (c.args.j - 1) c.loop-l.l) (rw (rest, flat_append) at c.loop-l.invariant)
    c.cross_line.ensures

pub returns : goal.returns
unfolding flat_map
returns c = rest_none (rw (lines_last (λ p. eqb (order c.args.e p) (c.args.j - 1)) c.args.e {l = c.loop-l.l} (omega arith)) at c.loop-l.invariant)
