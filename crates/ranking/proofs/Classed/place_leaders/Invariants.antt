-- The first i of the listed have their numbers and places.
use Rattle.std.proofs.Common.{◌≡◌, ◌+◌, get_or}
use Rattle.lists.specs.Lists.{overlay}
use Rattle.ranking.proofs.NumberLaws.{Placing}
use Rattle.ranking.proofs.Classed.place_leaders.Given as goal

abbrev pub invariant-loop-i : goal.invariant-loop-i
invariant-loop-i l = Placing l.self.classes.now l.initial.spare l.spare l.self.n l.i × (l.leaders ≡ overlay l.initial.leaders 0 (λ j. get_or l.initial.spare (l.self.n + j) 0) l.i)
