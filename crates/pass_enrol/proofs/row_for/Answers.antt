-- None at position 0, and else that of the cell there.
use Rattle.std.proofs.Common.{arith}
use Rattle.extents.proofs.SizeLaws.{sized_within}
use Rattle.pass_enrol.proofs.RowLaws.{local_within, row_none, row_some}
use Rattle.pass_enrol.proofs.row_for.Goals as goal

pub returns-then-position-eq0 : goal.returns-then-position-eq0
returns-then-position-eq0 c = search row_none

pub row_at-requires : goal.row_at-requires
row_at-requires c = (sized_within (omega arith) c.requires.0.sized, c.requires.1, local_within _ _ _ c.cell_at.ensures (c.requires.2 c.if-position-eq0.false))

pub returns : goal.returns
returns c = search row_some
