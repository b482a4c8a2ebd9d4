-- The first y lines are laid.
use Rattle.std.proofs.Common.{◌≡◌}
use Rattle.layer_printer.proofs.PageLaws.{lines_laid}
use Rattle.layer_printer.proofs.put_page.Given as goal

abbrev pub invariant-loop-y : goal.invariant-loop-y
invariant-loop-y l = l.tray ≡ lines_laid l.w l.layer l.p l.at l.initial.tray l.y
