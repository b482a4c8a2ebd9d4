use Rattle.judge.proofs.JudgeLaws.{lent_same}
use Rattle.judge.proofs.lent_fits.Goals as goal

pub returns-in-Open : goal.returns-in-Open
returns-in-Open c = lent_same _ _ _ _ _ _ c.in-Open.is c.open_lent.ensures

pub returns-in-Crossing : goal.returns-in-Crossing
returns-in-Crossing c = lent_same _ _ _ _ _ _ c.in-Crossing.is c.crossing_lent.ensures
