-- The first i codes are laid, each with the 0 behind it.
use Rattle.std.proofs.Common.{◌*◌, ◌≡◌}
use Rattle.lists.specs.Lists.{overlay}
use Rattle.pass_fill.specs.CodeOn.{code_on}
use Rattle.pass_fill.proofs.lay_codes.Given as goal

abbrev pub invariant-loop-i : goal.invariant-loop-i
invariant-loop-i l = l.map ≡ overlay l.initial.map l.base (code_on l.codes 0) (2 * l.i)
