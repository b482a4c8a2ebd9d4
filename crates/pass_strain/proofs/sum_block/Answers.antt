-- A turn takes in the next line.
use Rattle.std.proofs.Common.{◌≡◌, ◌+◌, ◌-◌, ◌*◌, arith}
use Rattle.pass_strain.proofs.SumLaws.{gone_none, gone_next, gone_all}
use Rattle.pass_strain.proofs.SpotLaws.{line_below, layer_below, line_there, lines_there}
use Rattle.pass_strain.proofs.sum_block.Goals as goal

pub loop-z-init : goal.loop-z-init
loop-z-init c = let s : 0 * (2 * c.args.e.y - 1) ≡ 0 = omega arith in rw s (gone_none _ _ _ _ _)

pub take_line-requires : goal.take_line-requires
take_line-requires c = (
  c.requires,
  line_there c.args.e c.loop-z.z c.loop-y.y c.loop-z-test.true c.loop-y-test.true,
  line_below (2 * c.args.e.y - 1) c.loop-y.y c.loop-z.z c.loop-y-test.true,
  layer_below (2 * c.args.e.y - 1) c.loop-y.y c.loop-z.z c.loop-y-test.true,
  omega arith,
)

pub loop-y-preserved : goal.loop-y-preserved
loop-y-preserved c =
    let s : c.loop-z.z * (2 * c.args.e.y - 1) + (c.loop-y.y + 1) ≡ c.loop-z.z * (2 * c.args.e.y - 1) + c.loop-y.y + 1 = omega arith in
    rw s
    (gone_next _ _ _ _ _ _ _ _ c.loop-y.invariant _ _ (line_there c.args.e c.loop-z.z c.loop-y.y c.loop-z-test.true c.loop-y-test.true) c.take_line.ensures.sum
    c.take_line.ensures.count)

pub returns-clause-sum : goal.returns-clause-sum
returns-clause-sum c = (gone_all _ _ _ _ _ _ _ _ c.loop-z.invariant (lines_there c.args.e c.loop-z.z c.loop-z-test.false)).0

pub returns-clause-count : goal.returns-clause-count
returns-clause-count c = (gone_all _ _ _ _ _ _ _ _ c.loop-z.invariant (lines_there c.args.e c.loop-z.z c.loop-z-test.false)).1
