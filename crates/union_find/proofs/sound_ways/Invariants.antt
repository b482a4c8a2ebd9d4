-- The ways that are left have the answer of all, and the steps made and left are all.
use Rattle.std.proofs.Common.{◌≡◌, ◌≤◌, ◌+◌, ◌-◌, length}
use Rattle.lists.specs.Lists.{consecutive, all_of}
use Rattle.union_find.specs.Links.{sound_from, sound_range, depths}
use Rattle.union_find.proofs.sound_ways.Given as goal

abbrev pub invariant-loop-i : goal.invariant-loop-i
invariant-loop-i l =
    (l.steps ≤ length l.links) × (all_of (sound_from l.links) (consecutive (l.start + l.i) (l.n - l.i)) ≡ sound_range l.links l.start l.n) × (l.steps + depths l.links (l.start + l.i) (l.n - l.i) ≡ depths l.links l.start l.n)
