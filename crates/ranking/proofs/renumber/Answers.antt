-- The class that is read is as it came.
use Rattle.std.proofs.Common.{get_or, refl, arith}
use Rattle.lists.proofs.Overlay.{written_behind, renewed_next}
use Rattle.ranking.proofs.renumber.Goals as goal

pub bounds-spare-c : goal.bounds-spare-c
bounds-spare-c c =
    let x = c.loop-x.x in
    omega (arith, written_behind _ _ _ _ c.loop-x.invariant x (omega arith), c.requires.1.low x c.loop-x-test.true)

pub loop-x-preserved : goal.loop-x-preserved
loop-x-preserved c = renewed_next (λ y. get_or c.args.spare.now y 0) _ _ _ _ c.loop-x.invariant refl
