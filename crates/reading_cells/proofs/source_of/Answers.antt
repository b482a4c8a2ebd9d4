use Rattle.reading_cells.proofs.OwnLaws.{source_is}
use Rattle.reading_cells.proofs.source_of.Goals as goal

pub returns : goal.returns
returns c = source_is c.args.cuts.now _ _ _ _ _ c.block_at.ensures c.starts_of.ensures c.entry_of.ensures
