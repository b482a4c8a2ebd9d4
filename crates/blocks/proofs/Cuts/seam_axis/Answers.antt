use Rattle.std.proofs.Common.{sym}
use Rattle.blocks.proofs.CodeLaws.{axis_is}
use Rattle.blocks.proofs.Cuts.seam_axis.Goals as goal

pub returns-then-next : goal.returns-then-next
returns-then-next c = λ e. rw (axis_is, sym c.place_of-p.ensures, sym c.place_of-q.ensures, sym c.next.ensures, c.if-next.true)

pub returns-then-next-2 : goal.returns-then-next-2
returns-then-next-2 c = λ e. rw (axis_is, sym c.place_of-p.ensures, sym c.place_of-q.ensures, sym c.next.ensures, c.if-next.false, sym c.next-else-next.ensures, c.if-next-2.true)

pub returns-else-next-2 : goal.returns-else-next-2
returns-else-next-2 c = λ e. rw (axis_is, sym c.place_of-p.ensures, sym c.place_of-q.ensures, sym c.next.ensures, c.if-next.false, sym c.next-else-next.ensures, c.if-next-2.false)
