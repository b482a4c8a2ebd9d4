use Rattle.blocks.proofs.CodeLaws.{block_is}
use Rattle.blocks.proofs.Cuts.block_at.Goals as goal

pub returns : goal.returns
returns c = block_is c.args.self.now c.args.b c.place_of-p.result _ _ _ c.place_of-p.ensures c.side_of-x.ensures c.side_of-y.ensures c.side_of-z.ensures
