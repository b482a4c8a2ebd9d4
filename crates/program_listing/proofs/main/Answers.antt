-- A volume that is to be listed is small.
use Rattle.std.proofs.Common.{arith, refl}
use Rattle.parser.proofs.AnswerLaws.{listed_small}
use Rattle.program_listing.proofs.main.Goals as goal

pub list_codes-requires : goal.list_codes-requires
list_codes-requires c = (listed_small _ _ _ _ _ _ c.in-Ok.ensures.finished refl, omega arith)
