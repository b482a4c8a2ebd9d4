-- A turn counts the points of the next line.
use Rattle.std.proofs.Common.{◌+◌, ◌∙◌, ap, length, zero-add, arith}
use Rattle.pass_point.proofs.PointLaws.{found_all, lines_next, lines_room, lines_last}
use Rattle.pass_point.proofs.count_points.Goals as goal

pub loop-l-init : goal.loop-l-init
loop-l-init c = ap (λ ps. 0 + length ps) (found_all _ _ _ _) ∙ zero-add _

pub count_line-n-requires : goal.count_line-n-requires
count_line-n-requires c = (c.requires.0, c.requires.1, omega arith, lines_room _ _ _ _ _ _ c.loop-l.invariant c.requires.0 (omega arith))

pub loop-l-preserved : goal.loop-l-preserved
loop-l-preserved c = lines_next _ _ _ _ _ _ c.loop-l.invariant (omega arith) _ c.count_line-n.ensures

pub returns : goal.returns
returns c = lines_last _ _ _ _ _ _ c.loop-l.invariant (omega arith)
