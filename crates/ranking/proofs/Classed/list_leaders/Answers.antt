-- The laws of the list of first ones.
use Rattle.std.proofs.Common.{arith}
use Rattle.ranking.proofs.LeaderLists.{leaders_none, leaders_next, leaders_most}
use Rattle.ranking.proofs.Classed.list_leaders.Goals as goal

pub loop-x-init : goal.loop-x-init
loop-x-init c = leaders_none _ _ _

pub list_first-h-requires-clause-h_lt_n : goal.list_first-h-requires-clause-h_lt_n
list_first-h-requires-clause-h_lt_n c = let m = leaders_most c.loop-x.invariant in (omega arith, omega arith)

pub loop-x-preserved : goal.loop-x-preserved
loop-x-preserved c =
    leaders_next _ _ _ _ _ _ c.loop-x.invariant (omega (arith, c.args.self.now.named.low c.loop-x.x c.loop-x-test.true)) _ _ c.list_first-h.ensures.value c.list_first-h.ensures.spare_after
