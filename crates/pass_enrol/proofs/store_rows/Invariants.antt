-- The rows of the first i numbers are written.
use Rattle.std.proofs.Common.{◌≡◌, suc, ◌*◌, ◌/◌, ◌%◌}
use Rattle.lists.specs.Lists.{overlay}
use Rattle.pass_enrol.specs.EnrolledRows.{row_in}
use Rattle.pass_enrol.proofs.store_rows.Given as goal

abbrev pub invariant-loop-i : goal.invariant-loop-i
invariant-loop-i l =
    l.rows ≡ overlay l.initial.rows (l.width * l.from) (λ x. row_in l.fn.block.size l.shift l.map l.j (suc (x / l.width)) (x % l.width)) (l.width * l.i)
