-- The marked blocks are the needed ones.
use Rattle.reading_blocks.specs.Marks.{lists_of}
use Rattle.reading_blocks.proofs.RequestLaws.{ready_few, marks_room, marks_listed}
use Rattle.reading_blocks.proofs.list_needed.Goals as goal

pub block_count-requires : goal.block_count-requires
block_count-requires c = ready_few c.args.cuts.now (lists_of c.args.cells.now) c.requires.0

pub list_marked-requires : goal.list_marked-requires
list_marked-requires c =
    marks_room c.args.cuts.now (lists_of c.args.cells.now) _ c.mark_blocks.ensures _ c.block_count.ensures c.requires.0 c.args.tray.now c.requires.1 c.requires.2

pub returns : goal.returns
returns c = marks_listed c.args.cuts.now (lists_of c.args.cells.now) _ c.mark_blocks.ensures _ c.block_count.ensures _ _ _ c.list_marked.ensures
