-- The links of the first i ids are sound.
use Rattle.std.proofs.Common.{◌≡◌, ◌<◌, ℕ, true}
use Rattle.union_find.specs.Links.{sound_at}
use Rattle.union_find.proofs.all_sound.Given as goal

abbrev pub invariant-loop-i : goal.invariant-loop-i
invariant-loop-i l = (x : ℕ) → x < l.i → sound_at l.links x ≡ true
