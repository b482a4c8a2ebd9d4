-- A turn numbers the next cell of the line.
use Rattle.std.proofs.Common.{◌∙◌, arith}
use Rattle.cells.specs.Grid.{sides}
use Rattle.lines.proofs.LineLaws.{order_tests}
use Rattle.lines.proofs.WalkLaws.{walk_inside, walk_fits, walk_strided, cell_within, cell_walks, cell_sum, cell_first, cell_next, cell_last}
use Rattle.pass_number.proofs.ScanLaws.{ahead_next, ahead_none}
use Rattle.pass_number.proofs.number_line.Goals as goal

pub strided_line-s-requires : goal.strided_line-s-requires
strided_line-s-requires c = (c.requires.0, c.requires.4)

pub loop-k-init : goal.loop-k-init
unfolding sides
loop-k-init c =
    let L = c.strided_line-s.ensures.line in
    record { low = omega (arith, c.requires.5, L.base); rest = rw (← cell_first L (order_tests _ _ _ (omega arith))) }

pub overflow_add-p-in-loop-k : goal.overflow_add-p-in-loop-k
overflow_add-p-in-loop-k c = search cell_sum

pub number_at-t-requires : goal.number_at-t-requires
number_at-t-requires c =
    let S = c.strided_line-s.ensures in
    let h = cell_within S.line c.loop-k-test.true in (
      c.loop-k.auto.map ∙ c.requires.1,
      c.loop-k.auto.links ∙ c.requires.2,
      walk_inside S.line _ h c.requires.4,
      omega (arith, walk_fits S.line _ h c.requires.0 c.requires.4),
      c.loop-k.invariant.low,
      walk_strided S (cell_walks S.line c.loop-k.k) h (omega arith),
    )

pub loop-k-preserved : goal.loop-k-preserved
loop-k-preserved c =
    let rest = cell_next c.strided_line-s.ensures.line (order_tests _ _ _ (omega arith)) c.loop-k-test.true in
    ahead_next (omega arith) (rw rest at c.loop-k.invariant) c.number_at-t.ensures

pub returns : goal.returns
unfolding sides
returns c =
    ahead_none (rw (cell_last c.strided_line-s.ensures.line (order_tests _ _ _ (omega arith)) c.loop-k-test.false) at c.loop-k.invariant)
