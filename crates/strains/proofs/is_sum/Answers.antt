-- The laws of the test, below 2^42 and from there on.
use lib.Ieee.{of_bits}
use Rattle.strains.proofs.Whole.{below_large, from_large}
use Rattle.strains.proofs.is_sum.Goals as goal

pub returns-then-a : goal.returns-then-a
unfolding of_bits
returns-then-a c = rw c.magnitude-a.ensures (below_large _ (rw c.magnitude-a.ensures at c.if-a.true))

pub returns-else-a : goal.returns-else-a
unfolding of_bits
returns-else-a c = rw c.magnitude-a.ensures (from_large _ c.well_formed.0.1 (rw c.magnitude-a.ensures at c.if-a.false))
