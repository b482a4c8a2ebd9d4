-- The place is inside, its way is sound where that of x is, and the steps made and left are those of x. The measure is the place.
use Rattle.std.proofs.Common.{◌≡◌, ◌<◌, ◌+◌, length}
use Rattle.union_find.specs.Links.{sound_from, depth}
use Rattle.union_find.proofs.walk.Given as goal

abbrev pub invariant-loop-at : goal.invariant-loop-at
invariant-loop-at l = (l.at < length l.links) × (sound_from l.links l.at ≡ sound_from l.links l.x) × (l.steps + depth l.links l.at ≡ depth l.links l.x)

abbrev pub decreases-loop-at : goal.decreases-loop-at
decreases-loop-at l = l.at
