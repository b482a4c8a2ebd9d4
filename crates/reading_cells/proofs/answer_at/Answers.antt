use Rattle.reading_cells.proofs.OwnLaws.{own_has}
use Rattle.reading_cells.proofs.AnswerLaws.{own_placed}
use Rattle.reading_cells.proofs.answer_at.Goals as goal

pub local-requires : goal.local-requires
local-requires c = (own_has c.args.from _ _ c.is_own.ensures c.if-not-is_own.false, c.requires.1)

pub number_of-requires : goal.number_of-requires
number_of-requires c = own_placed _ c.args.from _ _ c.requires.0 c.requires.2 c.is_own.ensures c.if-not-is_own.false
