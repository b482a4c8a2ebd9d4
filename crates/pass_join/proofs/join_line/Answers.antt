-- A turn joins at the next cell of the line.
use Rattle.std.proofs.Common.{arith}
use Rattle.cells.specs.Grid.{sides}
use Rattle.labels.specs.Number.{edges_at}
use Rattle.lines.proofs.WalkLaws.{walk_inside, walk_strided, cell_within, cell_walks, cell_sum, cell_first, cell_next, cell_last}
use Rattle.union_find.proofs.LinkLaws.{left_all, left_fewer, left_none}
use Rattle.pass_join.proofs.JoinLaws.{trays_kept, below_tests}
use Rattle.pass_join.proofs.join_line.Goals as goal

pub strided_line-s-requires : goal.strided_line-s-requires
strided_line-s-requires c = (c.requires.0.sized, c.requires.2)

pub loop-k-init : goal.loop-k-init
unfolding sides
loop-k-init c = rw (← cell_first c.strided_line-s.ensures.line (below_tests _ _ _ c.requires.1)) (left_all _ _)

pub overflow_add-line-in-loop-k : goal.overflow_add-line-in-loop-k
overflow_add-line-in-loop-k c = search cell_sum

pub join_at-requires : goal.join_at-requires
join_at-requires c =
    let S = c.strided_line-s.ensures in
    let h = c.loop-k-test.true in (
      trays_kept c.requires.0 c.loop-k.invariant,
      walk_inside S.line _ (cell_within S.line h) c.requires.2,
      omega arith,
      walk_strided S (cell_walks S.line c.loop-k.k) (cell_within S.line h) (omega arith),
    )

pub loop-k-preserved : goal.loop-k-preserved
unfolding edges_at
loop-k-preserved c =
    let rest = cell_next c.strided_line-s.ensures.line (below_tests _ _ _ c.requires.1) c.loop-k-test.true in
    left_fewer _ (rw rest at c.loop-k.invariant) c.join_at.ensures

pub returns : goal.returns
unfolding edges_at sides
returns c =
    left_none (rw (cell_last c.strided_line-s.ensures.line (below_tests _ _ _ c.requires.1) c.loop-k-test.false) at c.loop-k.invariant)
