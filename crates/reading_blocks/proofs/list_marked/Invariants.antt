-- The marked ones of the first b blocks stand in the tray.
use Rattle.reading_blocks.proofs.MarkLaws.{Listed}
use Rattle.reading_blocks.proofs.list_marked.Given as goal

abbrev pub invariant-loop-b : goal.invariant-loop-b
invariant-loop-b l = Listed l.marks l.initial.tray l.b l.place l.tray
