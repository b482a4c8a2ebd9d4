-- The places before i are written.
use Rattle.std.proofs.Common.{◌≡◌}
use Rattle.lists.specs.Lists.{overlay}
use Rattle.lists.proofs.write_value.Given as goal

abbrev pub invariant-loop-i : goal.invariant-loop-i
invariant-loop-i g l = l.xs ≡ overlay l.initial.xs l.from (λ _. l.value) l.i
