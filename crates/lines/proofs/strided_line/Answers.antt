-- The strides are those of the line's parities.
use Rattle.std.proofs.Common.{refl, arith}
use Rattle.cells.specs.Box.{stride}
use Rattle.cells.specs.Grid.{sides}
use Rattle.cells.proofs.ExtentLaws.{layer_high}
use Rattle.lines.specs.Lines.{line_y, line_z}
use Rattle.lines.proofs.strided_line.Goals as goal

pub line_with-line-requires : goal.line_with-line-requires
unfolding sides line_y line_z
line_with-line-requires c = let p = c.requires in (p.0, p.1, refl)

pub overflow_mul-wh : goal.overflow_mul-wh
unfolding sides
overflow_mul-wh c = rw c.line_with-line.ensures.width (omega (arith, layer_high c.requires.0))

pub returns : goal.returns
unfolding sides stride line_y line_z
returns c =
    let L = c.line_with-line.ensures in
    record { line = L; first = rw (← L.width) c.first_stride.ensures; middle = L.width; last = rw (← L.width) c.last_stride.ensures }
