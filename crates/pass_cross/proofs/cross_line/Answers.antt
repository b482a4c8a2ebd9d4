-- A turn joins the edges at the next cell.
use mathlib.Core.List.{flat_map}
use Rattle.std.proofs.Common.{◌≡◌, ◌+◌, ◌-◌, ◌*◌, arith}
use Rattle.lines.proofs.WalkLaws.{odd_tests, cell_sum, cell_first, cell_next, cell_last}
use Rattle.pass_cross.specs.CrossEdges.{cross_at}
use Rattle.pass_cross.specs.Inner.{line_edges}
use Rattle.pass_cross.proofs.CrossLaws.{rest_all, rest_fewer, rest_none, trays_kept, line_cross}
use Rattle.pass_cross.proofs.cross_line.Goals as goal

pub loop-k-init : goal.loop-k-init
unfolding line_edges
loop-k-init c =
    let axes : 4 - c.args.j + (c.args.j - 1) ≡ 3 = omega (arith, c.requires.0.low, c.requires.0.high) in
    rw (← cell_first c.strided_line-s.ensures.line (odd_tests c.args.e _ _ c.args.l axes)) (rest_all _ _ _)

pub overflow_add-t-in-loop-k : goal.overflow_add-t-in-loop-k
overflow_add-t-in-loop-k c = record { fits = cell_sum c.strided_line-s.ensures.line c.loop-k-test.true c.requires.0.sized c.requires.1 }

pub cross_at-requires : goal.cross_at-requires
cross_at-requires c = line_cross (trays_kept c.requires.0 c.loop-k.invariant) c.strided_line-s.ensures c.requires.1 c.loop-k-test.true

pub loop-k-preserved : goal.loop-k-preserved
unfolding flat_map
loop-k-preserved c =
    let line = c.strided_line-s.result.line in
    let axes : 4 - c.args.j + (c.args.j - 1) ≡ 3 = omega (arith, c.requires.0.low, c.requires.0.high) in
    let rest = cell_next c.strided_line-s.ensures.line (odd_tests c.args.e _ _ c.args.l axes) c.loop-k-test.true in
    rest_fewer (λ f. cross_at c.args.e c.args.map.now f c.args.above_from c.args.from (line.base + (line.start + 2 * c.loop-k.k))) (rw rest at c.loop-k.invariant) c.cross_at.ensures

pub returns : goal.returns
unfolding flat_map
returns c =
    let axes : 4 - c.args.j + (c.args.j - 1) ≡ 3 = omega (arith, c.requires.0.low, c.requires.0.high) in
    rest_none (rw (cell_last c.strided_line-s.ensures.line (odd_tests c.args.e _ _ c.args.l axes) c.loop-k-test.false) at c.loop-k.invariant)
