-- The entries before x are shifted, and the others as they were.
use Rattle.std.proofs.Common.{◌≡◌, ℕ, ◌<◌, ◌≤◌, get_or}
use Rattle.pass_enrol.specs.EnrolledRows.{shift_by}
use Rattle.pass_enrol.proofs.shifted_row.Given as goal

abbrev pub invariant-loop-x : goal.invariant-loop-x
invariant-loop-x l = record {
  done : (i : ℕ) → i < l.x-index → get_or l.x-items i 0 ≡ shift_by l.fn.shift (get_or l.fn.row i 0);
  left : (i : ℕ) → l.x-index ≤ i → get_or l.x-items i 0 ≡ get_or l.fn.row i 0;
}
