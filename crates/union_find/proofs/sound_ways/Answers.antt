-- One way more: a way that is not sound, one that makes too many steps, or one that goes on.
use Rattle.std.proofs.Common.{arith, sym, ◌∙◌, ◌+◌, ◌-◌}
use Rattle.lists.proofs.Tests.{test_same, test_failed}
use Rattle.union_find.specs.Links.{sound_from, sound_range}
use Rattle.union_find.proofs.SoundLaws.{way_none, depths_same, ways_stray, ways_long, ways_all, turn_sound, turn_steps, turn_low}
use Rattle.union_find.proofs.sound_ways.Goals as goal

pub loop-i-init : goal.loop-i-init
unfolding sound_range
loop-i-init c =
    let a = c.args in (
      omega arith,
      test_same (sound_from a.links.now) (a.from + 0) (a.count - 0) a.from a.count (omega arith) (omega arith),
      omega (arith, depths_same a.links.now (a.from + 0) (a.count - 0) a.from a.count (omega arith) (omega arith)),
    )

pub returns-in_default : goal.returns-in_default
returns-in_default c =
    let l = c.loop-i in
    ways_stray _ _ _ (sym (test_failed (sound_from _) _ _ (omega arith) (way_none _ _ (sym c.walk.ensures ∙ c.in_default.is)) ∙ l.invariant.1))

pub overflow_add-steps : goal.overflow_add-steps
overflow_add-steps c =
    let l = c.loop-i in
    omega (arith, l.invariant.0, turn_low _ _ _ l.i l.steps l.invariant.1 l.invariant.2 (omega arith) _ (sym c.in-Some.ensures))

pub returns-then-steps-links : goal.returns-then-steps-links
returns-then-steps-links c =
    let l = c.loop-i in
    let w = c.in-Some.way in
    ways_long _ _ _ (l.i + 1) (l.steps + w)
    (turn_sound _ _ _ l.i l.steps l.invariant.1 l.invariant.2 (omega arith) w (sym c.in-Some.ensures))
    (turn_steps _ _ _ l.i l.steps l.invariant.1 l.invariant.2 (omega arith) w (sym c.in-Some.ensures))
    _ c.all_sound.ensures c.if-steps-links.true

pub loop-i-preserved : goal.loop-i-preserved
loop-i-preserved c =
    let l = c.loop-i in
    let w = c.in-Some.way in (
      c.if-steps-links.false,
      turn_sound _ _ _ l.i l.steps l.invariant.1 l.invariant.2 (omega arith) w (sym c.in-Some.ensures),
      turn_steps _ _ _ l.i l.steps l.invariant.1 l.invariant.2 (omega arith) w (sym c.in-Some.ensures),
    )

pub returns : goal.returns
returns c = let l = c.loop-i in ways_all _ _ _ l.i l.steps l.invariant.1 l.invariant.2 (omega arith) l.invariant.0
