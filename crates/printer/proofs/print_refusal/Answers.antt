use Rattle.std.proofs.Common.{rules}
use Rattle.printer.proofs.PrintLaws.{refusal_put}
use Rattle.printer.proofs.print_refusal.Goals as goal

pub returns : goal.returns
returns c = refusal_put _ _ _ _ _ _ (search rules) (rw c.new-s.ensures.begun at c.put_count.ensures.put) c.put.ensures.put
