-- The first ones below x are listed.
use Rattle.ranking.specs.Ranking.{LeadersListed}
use Rattle.ranking.proofs.Classed.list_leaders.Given as goal

abbrev pub invariant-loop-x : goal.invariant-loop-x
invariant-loop-x l = LeadersListed l.self.classes.now l.self.n l.x l.h l.initial.spare l.spare
