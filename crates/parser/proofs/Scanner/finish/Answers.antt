use Rattle.parser.proofs.AnswerLaws.{finished_is}
use Rattle.parser.proofs.Scanner.finish.Goals as goal

pub returns-clause-finished : goal.returns-clause-finished
returns-clause-finished c = finished_is _ _ _ _ _ c.close.ensures.closed c.asked.ensures
