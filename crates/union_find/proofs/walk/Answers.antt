-- The laws of one turn of a walk.
use Rattle.std.proofs.Common.{arith}
use Rattle.union_find.proofs.SoundLaws.{walk_past, walk_stray, walk_root, walk_sound, walk_steps, walk_few}
use Rattle.union_find.proofs.walk.Goals as goal

pub returns-then-x-links : goal.returns-then-x-links
returns-then-x-links c = walk_past _ _ c.if-x-links.true

pub returns-then-d-at : goal.returns-then-d-at
returns-then-d-at c = let l = c.loop-at in walk_stray _ _ l.at l.steps l.invariant.1 l.invariant.2 c.if-d-at.true

pub returns-then-d-eq0 : goal.returns-then-d-eq0
returns-then-d-eq0 c = let l = c.loop-at in walk_root _ _ l.at l.steps l.invariant.1 l.invariant.2 c.if-d-eq0.true

pub overflow_add-steps : goal.overflow_add-steps
overflow_add-steps c = let l = c.loop-at in omega (arith, walk_few _ _ l.at l.steps l.invariant.1 l.invariant.2 c.if-d-at.false c.if-d-eq0.false)

pub loop-at-preserved : goal.loop-at-preserved
loop-at-preserved c =
    let l = c.loop-at in (
      omega arith,
      walk_sound _ _ l.at l.steps l.invariant.1 l.invariant.2 c.if-d-at.false c.if-d-eq0.false,
      walk_steps _ _ l.at l.steps l.invariant.1 l.invariant.2 c.if-d-at.false c.if-d-eq0.false,
    )
