-- One sound link more, one that is not, or none left to test.
use Rattle.std.proofs.Common.{arith}
use Rattle.union_find.proofs.SoundLaws.{below_sound, below_stray, below_past}
use Rattle.union_find.proofs.all_sound.Goals as goal

pub returns-then-links-i : goal.returns-then-links-i
returns-then-links-i c = below_stray _ _ _ (grind arith) c.if-links-i.true

pub loop-i-preserved : goal.loop-i-preserved
loop-i-preserved c = below_sound _ c.args.n _ c.loop-i.invariant c.if-links-i.false

pub returns : goal.returns
returns c = below_past _ _ c.loop-i.i c.loop-i.invariant (grind arith)
