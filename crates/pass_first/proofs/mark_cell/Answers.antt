use Rattle.std.proofs.Common.{rules, arith}
use Rattle.cells.proofs.ExtentLaws.{cells_high}
use Rattle.pass_first.proofs.MarkLaws.{marks_past, marks_none, marks_beyond, marks_set}
use Rattle.pass_first.proofs.mark_cell.Goals as goal
use Rattle.pass_first.proofs.mark_cell.Goals.{else-n-gt0-via-then-n-gt0+else-n-marks, else-n-gt0-via-else-n-gt0}

pub overflow_cast-marks : goal.overflow_cast-marks
overflow_cast-marks c = omega (arith, cells_high c.requires.0.sized)

pub returns-then-n-marks : goal.returns-then-n-marks
returns-then-n-marks c = search (marks_set, rules)

pub returns-else-n-gt0 : goal.returns-else-n-gt0
returns-else-n-gt0 c =
    elim c.else-n-gt0.branch [
      | else-n-gt0-via-then-n-gt0+else-n-marks w ↦ search (marks_beyond, rules)
      | else-n-gt0-via-else-n-gt0 w ↦ search (marks_none, rules)
    ]

pub returns-else-is_of : goal.returns-else-is_of
returns-else-is_of c = search (marks_past, rules)
