-- The laws of the pass over the places.
use Rattle.std.proofs.Common.{arith}
use Rattle.ranking.proofs.FirstLaws.{leaders_next, earlier_first}
use Rattle.ranking.proofs.Classed.find_leaders.Goals as goal

pub enter-requires-clause-c_in_bounds : goal.enter-requires-clause-c_in_bounds
enter-requires-clause-c_in_bounds c =
    let C = c.args.self.now.named in
    (omega (arith, C.low c.loop-x.x c.loop-x-test.true), λ d. omega (arith, earlier_first _ _ _ _ _ C c.loop-x-test.true c.loop-x.invariant d))

pub loop-x-preserved : goal.loop-x-preserved
loop-x-preserved c = leaders_next _ _ _ _ _ c.args.self.now.named c.loop-x-test.true c.loop-x.invariant (omega arith) _ c.enter.ensures
