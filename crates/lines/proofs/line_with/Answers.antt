-- The line begins and ends in the grid.
use Rattle.std.proofs.Common.{◌-◌, ◌*◌, refl, arith}
use Rattle.cells.specs.Grid.{sides}
use Rattle.lines.proofs.LineLaws.{first_within}
use Rattle.lines.proofs.WalkLaws.{line_fits}
use Rattle.lines.proofs.line_with.Goals as goal

pub overflow_mul-result : goal.overflow_mul-result
unfolding sides
overflow_mul-result c = omega (arith, line_fits c.requires.0 c.requires.1)

pub overflow_sub-result : goal.overflow_sub-result
overflow_sub-result c = rw c.first_x-start.ensures (first_within c.args.n c.args.q (2 * c.args.e.x - 1) (omega (arith, c.requires.0.x_low)))

pub returns : goal.returns
unfolding sides
returns c = record { width = refl; base = refl; start = rw (← c.requires.2) c.first_x-start.ensures; count = refl }
