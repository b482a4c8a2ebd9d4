-- Along each axis, with the strides of the others.
use Rattle.pass_cross.proofs.AroundLaws.{beside_kept, two_first, two_last, three_first, three_middle, three_last, rows_around_two, rows_around_three}
use Rattle.pass_cross.proofs.rows_around.Goals as goal

pub rows_along-requires : goal.rows_along-requires
rows_along-requires c = search two_first

pub rows_along-requires-then-n-eq2 : goal.rows_along-requires-then-n-eq2
rows_along-requires-then-n-eq2 c = search (two_last, beside_kept)

pub returns-then-n-eq2 : goal.returns-then-n-eq2
returns-then-n-eq2 c = search rows_around_two

pub rows_along-requires-2 : goal.rows_along-requires-2
rows_along-requires-2 c = search three_first

pub rows_along-requires-3 : goal.rows_along-requires-3
rows_along-requires-3 c = search (three_middle, beside_kept)

pub rows_along-requires-4 : goal.rows_along-requires-4
rows_along-requires-4 c =
    beside_kept _ _ _ _ _ _ _ _ _ _ (beside_kept _ _ _ _ _ _ _ _ _ _ (three_last _ _ _ _ _ _ _ c.requires.0 _ _ c.requires.1 c.if-n-eq2.false) c.rows_along-2.ensures)
    c.rows_along-3.ensures

pub returns : goal.returns
returns c = search rows_around_three
