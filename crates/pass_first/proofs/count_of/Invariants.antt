-- The largest number from cell p on.
use Rattle.std.proofs.Common.{◌≡◌}
use Rattle.pass_first.specs.Marks.{cell_order}
use Rattle.pass_first.proofs.MarkLaws.{largest_from}
use Rattle.pass_first.proofs.count_of.Given as goal

abbrev pub invariant-loop-p : goal.invariant-loop-p
invariant-loop-p l = l.most ≡ largest_from l.e l.map (cell_order l.kind) l.p
