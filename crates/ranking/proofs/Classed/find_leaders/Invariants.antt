-- Each class has the first one of its first x places.
use Rattle.ranking.specs.Ranking.{Leaders}
use Rattle.ranking.proofs.Classed.find_leaders.Given as goal

abbrev pub invariant-loop-x : goal.invariant-loop-x
invariant-loop-x l = Leaders l.keys l.self.classes.now l.x l.leaders
