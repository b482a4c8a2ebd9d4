-- A cell of the block is not below its origin.
use Rattle.std.proofs.Common.{arith}
use Rattle.cells.specs.declared.Axis.TheVariants.{X, Y, Z}
use Rattle.cells.specs.Grid.{sides}
use Rattle.blocks.proofs.BlockLaws.{in_low}
use Rattle.reading_cell.proofs.NumberLaws.{embeds, position_is}
use Rattle.reading_cell.proofs.position.Goals as goal

pub overflow_mul-back : goal.overflow_mul-back
unfolding sides
overflow_mul-back c = omega (arith, in_low _ _ c.requires.has X, c.requires.inside X, c.requires.sized.x_high)

pub overflow_sub-back : goal.overflow_sub-back
overflow_sub-back c = in_low _ _ c.requires.has X

pub overflow_mul-back-2 : goal.overflow_mul-back-2
unfolding sides
overflow_mul-back-2 c = omega (arith, in_low _ _ c.requires.has Y, c.requires.inside Y, c.requires.sized.y_high)

pub overflow_sub-back-2 : goal.overflow_sub-back-2
overflow_sub-back-2 c = in_low _ _ c.requires.has Y

pub overflow_mul-back-3 : goal.overflow_mul-back-3
unfolding sides
overflow_mul-back-3 c = omega (arith, in_low _ _ c.requires.has Z, c.requires.inside Z, c.requires.sized.z_high)

pub overflow_sub-back-3 : goal.overflow_sub-back-3
overflow_sub-back-3 c = in_low _ _ c.requires.has Z

pub embed-requires : goal.embed-requires
embed-requires c = embeds _ _ _ c.requires

pub returns : goal.returns
returns c = position_is _ _ _ c.requires _ c.embed.ensures
