-- The first x classes are replaced.
use Rattle.std.proofs.Common.{◌≡◌, get_or}
use Rattle.lists.specs.Lists.{overlay}
use Rattle.ranking.proofs.renumber.Given as goal

abbrev pub invariant-loop-x : goal.invariant-loop-x
invariant-loop-x l = l.numbers ≡ overlay l.initial.numbers 0 (λ y. get_or l.spare (get_or l.initial.numbers y 0) 0) l.x
