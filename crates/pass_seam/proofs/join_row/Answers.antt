-- The edges of one more are joined, and at the end none is left.
use Rattle.std.proofs.Common.{rules}
use Rattle.pass_seam.proofs.WalkLaws.{walk_more, walk_done}
use Rattle.pass_seam.proofs.join_row.Goals as goal

pub loop-u-preserved : goal.loop-u-preserved
loop-u-preserved c = search (rules, walk_more)

pub returns : goal.returns
returns c = search walk_done
