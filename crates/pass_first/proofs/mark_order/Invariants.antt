-- The first cells from cell p on are marked.
use Rattle.pass_first.specs.Marks.{cell_order, Marks}
use Rattle.pass_first.proofs.mark_order.Given as goal

abbrev pub invariant-loop-p : goal.invariant-loop-p
invariant-loop-p l = Marks l.e l.map (cell_order l.kind) l.p l.marks
