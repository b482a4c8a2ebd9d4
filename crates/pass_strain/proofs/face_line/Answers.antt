-- The numbers that a line is told by are small.
use Rattle.std.proofs.Common.{refl, arith}
use Rattle.cells.specs.Grid.{sides}
use Rattle.pass_strain.proofs.SumLaws.{bounds}
use Rattle.pass_strain.proofs.SpotLaws.{odd_there, lies, spot_bounds}
use Rattle.pass_strain.proofs.face_line.Goals as goal

pub line_with-line-requires : goal.line_with-line-requires
unfolding sides
line_with-line-requires c = (c.requires.0, c.requires.1, odd_there _ _ _ _ c.requires.2 c.requires.3)

pub overflow_mul-w : goal.overflow_mul-w
unfolding sides
overflow_mul-w c = record { fits = rw c.line_with-line.ensures.width (omega (arith, bounds _ _ c.requires.0 c.requires.1)) }

pub overflow_mul-result-3 : goal.overflow_mul-result-3
unfolding sides
overflow_mul-result-3 c = record { fits = omega (arith, bounds _ _ c.requires.0 c.requires.1, spot_bounds _ _ _ _ c.requires.2 c.requires.3 c.requires.0 c.requires.1) }

pub overflow_add-result : goal.overflow_add-result
unfolding sides
overflow_add-result c = record { fits = omega (arith, bounds _ _ c.requires.0 c.requires.1, spot_bounds _ _ _ _ c.requires.2 c.requires.3 c.requires.0 c.requires.1) }

pub returns : goal.returns
unfolding sides
returns c = lies _ _ _ _ c.requires.2 c.requires.3 _ c.line_with-line.ensures refl refl (rw (← c.line_with-line.ensures.width) c.first_stride.ensures) c.first_stride-2.ensures refl
