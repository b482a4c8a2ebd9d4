-- The places before i are written.
use Rattle.std.proofs.Common.{◌≡◌, get_or}
use Rattle.lists.specs.Lists.{overlay}
use Rattle.lists.proofs.write_front.Given as goal

abbrev pub invariant-loop-i : goal.invariant-loop-i
invariant-loop-i l = l.xs ≡ overlay l.initial.xs l.from (λ k. get_or l.row k 0) l.i
