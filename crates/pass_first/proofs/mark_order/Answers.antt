use Rattle.std.proofs.Common.{rules}
use Rattle.pass_first.proofs.MarkLaws.{marks_start}
use Rattle.pass_first.proofs.mark_order.Goals as goal

pub loop-p-init : goal.loop-p-init
loop-p-init c = search (marks_start, rules)
