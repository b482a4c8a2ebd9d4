-- A turn joins the next edge.
use Rattle.pass_cross.proofs.EdgeLaws.{to_turn, to_end}
use Rattle.pass_cross.proofs.join_from.Goals as goal

pub loop-k-preserved : goal.loop-k-preserved
loop-k-preserved c = search to_turn

pub returns : goal.returns
returns c = search to_end
