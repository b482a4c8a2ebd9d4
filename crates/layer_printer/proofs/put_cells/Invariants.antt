-- The first k places are laid.
use Rattle.std.proofs.Common.{◌≡◌}
use Rattle.lists.specs.Lists.{laid}
use Rattle.layer_printer.specs.Printed.{first_places}
use Rattle.layer_printer.proofs.put_cells.Given as goal

abbrev pub invariant-loop-k : goal.invariant-loop-k
invariant-loop-k l = l.tray ≡ laid l.at (first_places l.line l.p l.k) l.initial.tray
