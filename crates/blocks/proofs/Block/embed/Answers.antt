use Rattle.std.proofs.Common.{arith}
use Rattle.cells.specs.declared.Axis.TheVariants.{X, Y, Z}
use Rattle.cells.specs.Box.{index}
use Rattle.cells.specs.Grid.{sides}
use Rattle.blocks.specs.Blocks.{shift_in, embed_in}
use Rattle.blocks.proofs.Block.embed.Goals as goal

pub overflow_mul-i : goal.overflow_mul-i
unfolding shift_in sides
overflow_mul-i c = omega (arith, c.requires.1 X)

pub overflow_add-i : goal.overflow_add-i
unfolding shift_in sides
overflow_add-i c = omega (arith, c.requires.1 X)

pub overflow_mul-j : goal.overflow_mul-j
unfolding shift_in sides
overflow_mul-j c = omega (arith, c.requires.1 Y)

pub overflow_add-j : goal.overflow_add-j
unfolding shift_in sides
overflow_add-j c = omega (arith, c.requires.1 Y)

pub overflow_mul-k : goal.overflow_mul-k
unfolding shift_in sides
overflow_mul-k c = omega (arith, c.requires.1 Z)

pub overflow_add-k : goal.overflow_add-k
unfolding shift_in sides
overflow_add-k c = omega (arith, c.requires.1 Z)

pub position-requires : goal.position-requires
unfolding shift_in sides
position-requires c = let p = c.requires in omega (arith, p.0, p.1 X, p.1 Y, p.1 Z)

pub returns : goal.returns
unfolding embed_in shift_in index sides
returns c = c.position.ensures
