-- A turn joins along the next line.
use Rattle.std.proofs.Common.{arith}
use Rattle.cells.specs.Grid.{sides}
use Rattle.labels.specs.Number.{edges_at, order_below, edges}
use Rattle.lines.proofs.WalkLaws.{lines_first, lines_next, lines_last}
use Rattle.union_find.proofs.LinkLaws.{left_all, left_fewer, left_none}
use Rattle.pass_join.proofs.JoinLaws.{trays_kept, edges_append}
use Rattle.pass_join.proofs.join_cells.Goals as goal

pub loop-l-init : goal.loop-l-init
unfolding edges
loop-l-init c = rw (← lines_first (order_below c.args.e c.args.j) c.args.e) (left_all _ _)

pub join_line-requires : goal.join_line-requires
join_line-requires c = (trays_kept c.requires.0 c.loop-l.invariant, c.requires.1, omega arith)

pub loop-l-preserved : goal.loop-l-preserved
unfolding sides
loop-l-preserved c =
    let rest = lines_next (order_below c.args.e c.args.j) c.args.e {l = c.loop-l.l} (omega arith) in
    left_fewer _ (rw (rest, edges_append) at c.loop-l.invariant) c.join_line.ensures

pub returns : goal.returns
unfolding edges_at
returns c =
    left_none (rw (lines_last (order_below c.args.e c.args.j) c.args.e {l = c.loop-l.l} (omega arith)) at c.loop-l.invariant)
