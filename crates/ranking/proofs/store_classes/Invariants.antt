-- The first x classes are written.
use Rattle.std.proofs.Common.{◌≡◌}
use Rattle.lists.specs.Lists.{overlay}
use Rattle.union_find.specs.Links.{root}
use Rattle.ranking.proofs.store_classes.Given as goal

abbrev pub invariant-loop-x : goal.invariant-loop-x
invariant-loop-x l = l.classes ≡ overlay l.initial.classes 0 (root l.links) l.x
