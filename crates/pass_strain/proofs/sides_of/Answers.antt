-- By the row of the two numbers.
use Rattle.std.proofs.Common.{refl, arith}
use Rattle.pass_strain.proofs.SumLaws.{sides_same, sides_above, sides_below, sides_up, sides_down}
use Rattle.pass_strain.proofs.sides_of.Goals as goal

pub returns-then-u-w : goal.returns-then-u-w
returns-then-u-w c = sides_same _ _ _ refl refl c.if-u-w.true

pub returns-then-u-eq0 : goal.returns-then-u-eq0
returns-then-u-eq0 c = sides_above _ _ _ refl refl c.if-u-w.false c.if-u-eq0.true

pub returns-then-w-eq0 : goal.returns-then-w-eq0
returns-then-w-eq0 c = sides_below _ _ _ refl refl c.if-u-eq0.false c.if-w-eq0.true

pub returns-then-u-w-2 : goal.returns-then-u-w-2
returns-then-u-w-2 c = sides_up _ _ _ c.if-u-w.false c.if-u-eq0.false c.if-w-eq0.false refl refl c.if-u-w-2.true

pub returns-else-u-w-2 : goal.returns-else-u-w-2
returns-else-u-w-2 c = sides_down _ _ _ c.if-u-w.false c.if-u-eq0.false c.if-w-eq0.false refl refl (omega arith)
