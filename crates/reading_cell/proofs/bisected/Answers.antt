use Rattle.reading_cell.proofs.BisectLaws.{halved_less, left_again, left_none}
use Rattle.reading_cell.proofs.bisected.Goals as goal

pub loop-s-smaller : goal.loop-s-smaller
loop-s-smaller c = halved_less _ _ _ _ c.halved-s.ensures c.loop-s-test.true

pub loop-s-preserved : goal.loop-s-preserved
loop-s-preserved c = left_again _ _ _ _ _ c.loop-s.invariant c.halved-s.ensures c.loop-s-test.true

pub returns : goal.returns
returns c = left_none c.args.table.now c.args.v c.args.count c.loop-s.s c.loop-s.invariant c.loop-s-test.false
