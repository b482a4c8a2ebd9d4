use Rattle.std.proofs.Common.{arith}
use Rattle.extents.proofs.SizeLaws.{sized_within}
use Rattle.pass_first.proofs.MarkLaws.{first_inside}
use Rattle.printer.proofs.PrintLaws.{line_put}
use Rattle.printer.proofs.put_line.Goals as goal

pub row_at-row-requires : goal.row_at-row-requires
row_at-row-requires c = (sized_within (omega arith) c.requires.0.sized, c.requires.0.whole, rw c.requires.1 (first_inside _ _ _ c.requires.0.sized))

pub put_place-requires : goal.put_place-requires
put_place-requires c = (c.requires.0.sized, rw c.requires.1 (first_inside _ _ _ c.requires.0.sized))

pub returns-clause-put : goal.returns-clause-put
returns-clause-put c =
    line_put _ _ _ _ _ _ _ _ _ _ _ _ _ c.requires.1 c.row_at-row.ensures c.letter_of.ensures
    c.put.ensures.put c.put_spaced.ensures.put c.put_place.ensures.put (rw c.order.ensures at c.put_all.ensures.put) c.put-2.ensures.put
