-- The numbers so far are listed.
use Rattle.writer.proofs.WriteLaws.{Listed}
use Rattle.writer.proofs.write_numbers.Given as goal

abbrev pub invariant-loop-v : goal.invariant-loop-v
invariant-loop-v l = Listed l.map l.at l.fn.tray l.v-index l.end l.tray
