use Rattle.reading_cells.proofs.OwnLaws.{own_has}
use Rattle.reading_cells.proofs.stands_at.Goals as goal

pub local-requires : goal.local-requires
local-requires c = (own_has c.args.from _ _ c.is_own.ensures c.if-not-is_own.false, c.requires)
