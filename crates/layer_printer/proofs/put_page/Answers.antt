-- No line, one more, and all.
use Rattle.std.proofs.Common.{arith}
use Rattle.layer_printer.proofs.PageLaws.{lines_none, lines_next, lines_all}
use Rattle.layer_printer.proofs.put_page.Goals as goal

pub loop-y-init : goal.loop-y-init
loop-y-init c = lines_none _ _ _ _ _ (omega arith)

pub loop-y-preserved : goal.loop-y-preserved
loop-y-preserved c = lines_next _ _ _ _ _ _ _ _ (omega arith) c.loop-y.invariant c.put_line.ensures

pub returns : goal.returns
returns c = lines_all _ _ _ _ _ _ _ _ (omega arith) c.loop-y-test.false c.loop-y.invariant
