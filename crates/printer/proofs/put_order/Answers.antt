use Rattle.std.proofs.Common.{arith, rules, ap, ◌∙◌}
use Rattle.std.proofs.lemmas.List.{length-take-le}
use Rattle.lists.specs.Lists.{zeros}
use Rattle.pass_first.proofs.MarkLaws.{mark_read}
use Rattle.printer.proofs.PrintLaws.{lines_none, lines_next, lines_all, order_put}
use Rattle.printer.proofs.put_order.Goals as goal

pub loop-i-init : goal.loop-i-init
loop-i-init c = record { put = lines_none _ _ _ _; same_tray = search rules }

pub put_line-requires : goal.put_line-requires
put_line-requires c = (c.requires.0, mark_read _ _ _ _ _ _ c.mark_order.ensures c.loop-i-test.true)

pub loop-i-preserved : goal.loop-i-preserved
loop-i-preserved c = record {
  put = lines_next _ _ _ _ _ _ _ c.loop-i.invariant.put c.put_line.ensures.put;
  same_tray = c.put_line.ensures.same_tray ∙ c.loop-i.invariant.same_tray;
}

pub returns-clause-put : goal.returns-clause-put
returns-clause-put c =
    let l = length-take-le c.count_of-count.result c.mark_order.new.marks (omega (arith, c.count_of-count.ensures, c.mark_order.ensures.room, c.requires.2)) in
    order_put _ _ _ _ _ _ c.count_of-count.ensures (lines_all _ _ _ c.loop-i.i c.count_of-count.result _ _ (omega (arith, l)) (omega (arith, l)) c.loop-i.invariant.put)

pub returns-clause-marks_after : goal.returns-clause-marks_after
unfolding zeros
returns-clause-marks_after c = c.fill.ensures.after (λ y e. e) ∙ ap zeros c.mark_order.ensures.room
