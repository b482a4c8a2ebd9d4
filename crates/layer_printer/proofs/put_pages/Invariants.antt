-- The first p pages are laid.
use Rattle.std.proofs.Common.{◌≡◌}
use Rattle.layer_printer.proofs.PageLaws.{pages_laid}
use Rattle.layer_printer.proofs.put_pages.Given as goal

abbrev pub invariant-loop-p : goal.invariant-loop-p
invariant-loop-p l = l.tray ≡ pages_laid l.w l.h l.layer l.initial.tray l.p
