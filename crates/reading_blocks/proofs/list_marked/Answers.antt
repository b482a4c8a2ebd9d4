-- A marked block has a place in the tray, and goes there.
use Rattle.std.proofs.Common.{rules}
use Rattle.reading_blocks.proofs.MarkLaws.{listed_none, listed_more, listed_same, listed_room}
use Rattle.reading_blocks.proofs.list_marked.Goals as goal
use Rattle.reading_blocks.proofs.list_marked.Goals.{then-marks-b, else-marks-b}

pub loop-b-init : goal.loop-b-init
loop-b-init c = listed_none _ _

pub offset_bounds-tray-place : goal.offset_bounds-tray-place
offset_bounds-tray-place c =
    let r = listed_room _ _ _ _ _ _ c.loop-b.invariant c.requires.2 c.loop-b-test.true c.if-marks-b.true in
    search (rules, r)

pub bounds-tray-place : goal.bounds-tray-place
bounds-tray-place c = listed_room _ _ _ _ _ _ c.loop-b.invariant c.requires.2 c.loop-b-test.true c.if-marks-b.true

pub overflow_add-place : goal.overflow_add-place
overflow_add-place c =
    let r = listed_room _ _ _ _ _ _ c.loop-b.invariant c.requires.2 c.loop-b-test.true c.if-marks-b.true in
    search (rules, r)

pub loop-b-preserved : goal.loop-b-preserved
loop-b-preserved c =
    elim c.if-marks-b.branch [
      | then-marks-b w ↦ rw (w.tray-is, w.place-is) (listed_more _ _ _ _ _ c.loop-b.invariant w.if-marks-b.true (listed_room _ _ _ _ _ _ c.loop-b.invariant c.requires.2 c.loop-b-test.true w.if-marks-b.true))
      | else-marks-b w ↦ rw (w.tray-is, w.place-is) (listed_same _ _ _ _ _ c.loop-b.invariant w.if-marks-b.false)
    ]
