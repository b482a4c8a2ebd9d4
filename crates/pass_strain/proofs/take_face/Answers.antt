-- Both voxels of the cell have their places.
use Rattle.std.proofs.Common.{arith}
use Rattle.totals.specs.Totals.{sums_with, counts_with}
use Rattle.pass_strain.proofs.SumLaws.{spots, face_after}
use Rattle.pass_strain.proofs.take_face.Goals as goal

pub overflow_sub-p : goal.overflow_sub-p
overflow_sub-p c = let s = spots _ _ _ _ c.args.n _ _ _ _ c.requires.1 in omega arith

pub overflow_add-p : goal.overflow_add-p
overflow_add-p c = let s = spots _ _ _ _ c.args.n _ _ _ _ c.requires.1 in record { fits = omega arith }

pub offset_bounds-g-p-2 : goal.offset_bounds-g-p-2
offset_bounds-g-p-2 c = let s = spots _ _ _ _ c.args.n _ _ _ _ c.requires.1 in record { fits = omega arith }

pub bounds-g-p-2 : goal.bounds-g-p-2
bounds-g-p-2 c = let s = spots _ _ _ _ c.args.n _ _ _ _ c.requires.1 in omega arith

pub take_voxel-requires : goal.take_voxel-requires
take_voxel-requires c = let s = spots _ _ _ _ c.args.n _ _ _ _ c.requires.1 in (c.requires.0, s.below_value, s.below_kind)

pub overflow_add-v : goal.overflow_add-v
overflow_add-v c = let s = spots _ _ _ _ c.args.n _ _ _ _ c.requires.1 in record { fits = omega arith }

pub take_voxel-requires-2 : goal.take_voxel-requires-2
take_voxel-requires-2 c = let s = spots _ _ _ _ c.args.n _ _ _ _ c.requires.1 in (c.requires.0, s.above_value, s.above_kind)

pub returns-clause-sum : goal.returns-clause-sum
unfolding sums_with
returns-clause-sum c = search face_after

pub returns-clause-count : goal.returns-clause-count
unfolding counts_with
returns-clause-count c = search face_after
