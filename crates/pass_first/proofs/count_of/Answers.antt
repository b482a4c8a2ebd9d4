use Rattle.pass_first.proofs.MarkLaws.{largest_all}
use Rattle.pass_first.proofs.count_of.Goals as goal

pub returns : goal.returns
returns c = largest_all _ _ _ _ _ c.loop-p-test.false c.loop-p.invariant
