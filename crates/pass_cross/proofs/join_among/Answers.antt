-- A turn joins the edges of the next number.
use Rattle.pass_cross.proofs.EdgeLaws.{among_turn, among_end}
use Rattle.pass_cross.proofs.join_among.Goals as goal

pub loop-i-preserved : goal.loop-i-preserved
loop-i-preserved c = search among_turn

pub returns : goal.returns
returns c = search among_end
