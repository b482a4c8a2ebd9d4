-- A cell of the block stands at or after its origin.
use Rattle.std.proofs.Common.{arith, ap}
use mathlib.Core.Bool.{not}
use Rattle.cells.specs.declared.Axis.TheVariants.{X, Y, Z}
use Rattle.lowest.proofs.PlaceLaws.{has_low}
use Rattle.lowest.proofs.is_lowest.Goals as goal

pub overflow_mul-place : goal.overflow_mul-place
overflow_mul-place c = record { fits = omega (arith, has_low _ _ _ c.has_cell.ensures (ap not c.if-not-has_cell.false) X) }

pub overflow_sub-place : goal.overflow_sub-place
overflow_sub-place c = has_low _ _ _ c.has_cell.ensures (ap not c.if-not-has_cell.false) X

pub overflow_mul-place-2 : goal.overflow_mul-place-2
overflow_mul-place-2 c = record { fits = omega (arith, has_low _ _ _ c.has_cell.ensures (ap not c.if-not-has_cell.false) Y) }

pub overflow_sub-place-2 : goal.overflow_sub-place-2
overflow_sub-place-2 c = has_low _ _ _ c.has_cell.ensures (ap not c.if-not-has_cell.false) Y

pub overflow_mul-place-3 : goal.overflow_mul-place-3
overflow_mul-place-3 c = record { fits = omega (arith, has_low _ _ _ c.has_cell.ensures (ap not c.if-not-has_cell.false) Z) }

pub overflow_sub-place-3 : goal.overflow_sub-place-3
overflow_sub-place-3 c = has_low _ _ _ c.has_cell.ensures (ap not c.if-not-has_cell.false) Z
