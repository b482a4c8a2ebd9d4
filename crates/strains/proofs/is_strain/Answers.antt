-- The laws of the test, in range and out of it.
use Rattle.std.proofs.Common.{sym, ◌∙◌}
use lib.Ieee.{of_bits}
use Rattle.strains.proofs.Whole.{in_range, out_of_range}
use Rattle.strains.proofs.is_strain.Goals as goal

pub returns-then-a : goal.returns-then-a
unfolding of_bits
returns-then-a c = rw c.magnitude-a.ensures (in_range _ (rw c.magnitude-a.ensures at c.if-a.true))

pub returns-else-a : goal.returns-else-a
unfolding of_bits
returns-else-a c = c.if-a.false ∙ sym (out_of_range _ (rw c.magnitude-a.ensures at c.if-a.false))
