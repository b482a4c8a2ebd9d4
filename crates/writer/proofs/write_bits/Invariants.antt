-- The first i bytes are laid.
use Rattle.std.proofs.Common.{◌≡◌}
use Rattle.lists.specs.Lists.{tabulate, laid}
use Rattle.records.specs.Record.{map_byte}
use Rattle.writer.proofs.write_bits.Given as goal

abbrev pub invariant-loop-i : goal.invariant-loop-i
invariant-loop-i l = l.tray ≡ laid 12 (tabulate l.i (map_byte l.map)) l.initial.tray
