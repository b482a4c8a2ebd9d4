-- The numbers before x are counted.
use Rattle.std.proofs.Common.{◌≡◌, ◌≤◌, take}
use Rattle.pass_cross.specs.Inner.{count_active}
use Rattle.pass_cross.proofs.count_active.Given as goal

abbrev pub invariant-loop-x : goal.invariant-loop-x
invariant-loop-x l = (l.n ≡ count_active (take l.x-index l.x-items)) × (l.n ≤ l.x-index)
