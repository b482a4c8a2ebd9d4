-- One reading, or none.
use Rattle.std.proofs.Common.{◌≡◌, Some, refl}
use Rattle.totals.specs.Totals.{sums_with, counts_with}
use Rattle.pass_strain.specs.BlockReadings.{side_number}
use Rattle.pass_strain.specs.contracts.FaceSide.{the_type}
use Rattle.pass_strain.specs.declared.FaceSide.{FaceSide}
use Rattle.pass_strain.specs.declared.FaceSide.TheVariants.{Lower, Higher}
use Rattle.pass_strain.proofs.SumLaws.{neither_after, side_after}
use Rattle.pass_strain.proofs.take_voxel.Goals as goal

tag_is : (s : FaceSide) → denote.Enum.Declared.tag_of the_type s ≡ side_number (Some s)
tag_is Lower = refl
tag_is Higher = refl

pub returns-in-Some-clause-sum : goal.returns-in-Some-clause-sum
unfolding sums_with
returns-in-Some-clause-sum c = side_after _ _ _ _ _ _ _ c.in-Some.s _ c.in-Some.is (tag_is c.in-Some.s) c.reading_at.ensures c.take_reading.ensures.sum

pub returns-in-Some-clause-count : goal.returns-in-Some-clause-count
unfolding counts_with
returns-in-Some-clause-count c = side_after _ _ _ _ _ _ _ c.in-Some.s _ c.in-Some.is (tag_is c.in-Some.s) c.reading_at.ensures c.take_reading.ensures.count

pub returns-in_default-clause-sum : goal.returns-in_default-clause-sum
unfolding sums_with
returns-in_default-clause-sum c = neither_after _ _ _ _ _ c.in_default.is

pub returns-in_default-clause-count : goal.returns-in_default-clause-count
unfolding counts_with
returns-in_default-clause-count c = neither_after _ _ _ _ _ c.in_default.is
