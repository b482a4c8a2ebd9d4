-- The place is inside, it has the root of x, and no root has changed. The measure is the place.
use Rattle.std.proofs.Common.{◌≡◌, ◌<◌, length}
use Rattle.union_find.specs.Links.{root, Rooted}
use Rattle.union_find.proofs.find_halving.Given as goal

abbrev pub invariant-loop-at : goal.invariant-loop-at
invariant-loop-at l = (l.at < length l.links) × (root l.initial.links l.at ≡ root l.initial.links l.x) × Rooted l.initial.links l.links (root l.initial.links)

abbrev pub decreases-loop-at : goal.decreases-loop-at
decreases-loop-at l = l.at
