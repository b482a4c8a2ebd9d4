-- An edge, where neither number is 0 and the rows are equal.
use Rattle.pass_cross.proofs.EdgeLaws.{idle_left, idle_right, idle_rows, joined_two}
use Rattle.pass_cross.proofs.join_two.Goals as goal
use Rattle.pass_cross.proofs.join_two.Goals.{else-x-ne0-via-then-x-ne0+then-y-ne0+else-same_row, else-x-ne0-via-then-x-ne0+else-y-ne0, else-x-ne0-via-else-x-ne0}

pub returns-then-same_row : goal.returns-then-same_row
returns-then-same_row c = search joined_two

pub returns-else-x-ne0 : goal.returns-else-x-ne0
returns-else-x-ne0 c =
    elim c.else-x-ne0.branch [
      | else-x-ne0-via-then-x-ne0+then-y-ne0+else-same_row w ↦ search idle_rows
      | else-x-ne0-via-then-x-ne0+else-y-ne0 w ↦ search idle_right
      | else-x-ne0-via-else-x-ne0 w ↦ search idle_left
    ]
