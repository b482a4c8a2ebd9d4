-- The face that the cell shows, or none.
use Rattle.totals.specs.Totals.{sums_with, counts_with}
use Rattle.pass_strain.proofs.SumLaws.{away_after, own_after}
use Rattle.pass_strain.proofs.take_cell.Goals as goal

pub returns-then-n-ne0-clause-sum : goal.returns-then-n-ne0-clause-sum
unfolding sums_with
returns-then-n-ne0-clause-sum c = own_after _ _ _ _ _ _ _ _ _ _ c.own_face-n.ensures c.requires.1 _ _ _ c.if-n-ne0.true c.take_face.ensures.sum

pub returns-then-n-ne0-clause-count : goal.returns-then-n-ne0-clause-count
unfolding counts_with
returns-then-n-ne0-clause-count c = own_after _ _ _ _ _ _ _ _ _ _ c.own_face-n.ensures c.requires.1 _ _ _ c.if-n-ne0.true c.take_face.ensures.count

pub returns-else-n-ne0-clause-sum : goal.returns-else-n-ne0-clause-sum
unfolding sums_with
returns-else-n-ne0-clause-sum c = away_after _ _ _ _ _ _ _ _ _ _ c.own_face-n.ensures c.requires.1 _ _ c.if-n-ne0.false

pub returns-else-n-ne0-clause-count : goal.returns-else-n-ne0-clause-count
unfolding counts_with
returns-else-n-ne0-clause-count c = away_after _ _ _ _ _ _ _ _ _ _ c.own_face-n.ensures c.requires.1 _ _ c.if-n-ne0.false
