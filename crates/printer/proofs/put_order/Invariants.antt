-- The lines of the first i components are put.
use Rattle.std.proofs.Common.{◌≡◌}
use Rattle.lists.specs.Lists.{consecutive}
use Rattle.text.specs.Listing.{lines_for}
use Rattle.text_tray.specs.Sunk.{state_of, sunk}
use Rattle.pass_first.specs.Marks.{cell_order}
use Rattle.printer.proofs.put_order.Given as goal

abbrev pub invariant-loop-i : goal.invariant-loop-i
invariant-loop-i l = record {
  put : state_of l.s ≡ sunk (state_of l.initial.s) (lines_for l.e l.map (cell_order l.kind) (consecutive 1 l.i));
  same_tray : l.s.tray.ghost_name ≡ l.initial.s.tray.ghost_name;
}
