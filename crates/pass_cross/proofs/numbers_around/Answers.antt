-- Along each axis.
use Rattle.pass_cross.proofs.AroundLaws.{first_in_lem, last_in_lem, middle_in, numbers_two, numbers_three}
use Rattle.pass_cross.proofs.numbers_around.Goals as goal

pub numbers_along-requires : goal.numbers_along-requires
numbers_along-requires c = let r = first_in_lem _ _ _ _ _ _ _ c.requires in (r.low, r.high)

pub numbers_along-requires-2 : goal.numbers_along-requires-2
numbers_along-requires-2 c = let r = last_in_lem _ _ _ _ _ _ _ c.requires in (r.low, r.high)

pub returns-then-n-eq2 : goal.returns-then-n-eq2
returns-then-n-eq2 c = search numbers_two

pub numbers_along-requires-3 : goal.numbers_along-requires-3
numbers_along-requires-3 c = let r = middle_in _ _ _ _ _ _ _ c.requires c.if-n-eq2.false in (r.low, r.high)

pub returns : goal.returns
returns c = search numbers_three
