use Rattle.judge_enrol.proofs.TestLaws.{full_here, full_next}
use Rattle.judge_enrol.proofs.full.Goals as goal

pub returns-then-overfull : goal.returns-then-overfull
returns-then-overfull c = full_here _ _ _ _ _ _ _ _ _ c.overfull.ensures c.if-overfull.true

pub returns-else-overfull : goal.returns-else-overfull
returns-else-overfull c = full_next _ _ _ _ _ _ _ _ _ c.overfull.ensures c.if-overfull.false c.requires _ c.overfull-else-overfull.ensures
