use Rattle.reading_cell.proofs.LookupLaws.{place_some}
use Rattle.reading_cell.proofs.has_place.Goals as goal

pub returns-then-has_block : goal.returns-then-has_block
returns-then-has_block c = place_some c.args.cuts.now _ _ _ c.has_block.ensures c.if-has_block.true _ c.block_at.ensures _ c.has_cell.ensures
