use Rattle.blocks.specs.Blocks.{cut_by}
use Rattle.blocks.proofs.CodeLaws.{block_there}
use Rattle.blocks.proofs.Cuts.has_block.Goals as goal

pub returns : goal.returns
returns c = λ e. block_there (cut_by e c.args.self.now) c.args.b _ _ c.place_of.ensures c.intervals.ensures
