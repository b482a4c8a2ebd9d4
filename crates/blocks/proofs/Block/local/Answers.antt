use Rattle.std.proofs.Common.{arith}
use Rattle.cells.specs.declared.Axis.TheVariants.{X, Y, Z}
use Rattle.cells.specs.Box.{index}
use Rattle.cells.specs.Grid.{sides}
use Rattle.blocks.specs.Blocks.{local_in}
use Rattle.blocks.proofs.BlockLaws.{in_low, in_high}
use Rattle.blocks.proofs.Block.local.Goals as goal

pub overflow_mul-i : goal.overflow_mul-i
overflow_mul-i c = omega (arith, in_low _ _ c.requires.0 X)

pub overflow_sub-i : goal.overflow_sub-i
overflow_sub-i c = omega (arith, in_low _ _ c.requires.0 X)

pub overflow_mul-j : goal.overflow_mul-j
overflow_mul-j c = omega (arith, in_low _ _ c.requires.0 Y)

pub overflow_sub-j : goal.overflow_sub-j
overflow_sub-j c = omega (arith, in_low _ _ c.requires.0 Y)

pub overflow_mul-k : goal.overflow_mul-k
overflow_mul-k c = omega (arith, in_low _ _ c.requires.0 Z)

pub overflow_sub-k : goal.overflow_sub-k
overflow_sub-k c = omega (arith, in_low _ _ c.requires.0 Z)

pub position-requires : goal.position-requires
unfolding sides
position-requires c = let p = c.requires in omega (arith, p.1, in_low _ _ p.0 X, in_low _ _ p.0 Y, in_low _ _ p.0 Z, in_high _ _ p.0 X, in_high _ _ p.0 Y, in_high _ _ p.0 Z)

pub returns : goal.returns
unfolding local_in index sides
returns c = c.position.ensures
