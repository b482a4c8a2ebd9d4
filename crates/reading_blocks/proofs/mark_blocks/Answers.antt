-- The block of a cell is one of those that are marked for it.
use Rattle.std.proofs.Common.{arith, true, ◌∙◌}
use lib.ListN.{length-set}
use Rattle.reading_blocks.specs.Marks.{lists_of}
use Rattle.reading_blocks.proofs.RequestLaws.{ready_few, mark_bound, mark_none, mark_more}
use Rattle.reading_blocks.proofs.mark_blocks.Goals as goal

pub loop-i-init : goal.loop-i-init
loop-i-init c = (c.requires.1, mark_none c.args.cuts.now (lists_of c.args.cells.now) c.args.marks.now)

pub lowest_block-b-requires : goal.lowest_block-b-requires
lowest_block-b-requires c = ready_few c.args.cuts.now (lists_of c.args.cells.now) c.requires.0

pub bounds-marks-b : goal.bounds-marks-b
bounds-marks-b c =
    let bound = mark_bound c.args.cuts.now (lists_of c.args.cells.now) _ (omega (arith, c.loop-i-test.true, c.cell_count-n.ensures)) _ c.cell_within.ensures _ c.lowest_block-b.ensures c.requires.0 in
    omega (arith, bound, c.loop-i.invariant.0)

pub loop-i-preserved : goal.loop-i-preserved
loop-i-preserved c = (
  length-set c.loop-i.marks c.lowest_block-b.result true ∙ c.loop-i.invariant.0,
  mark_more c.args.cuts.now (lists_of c.args.cells.now) _ (omega (arith, c.loop-i-test.true, c.cell_count-n.ensures)) _ c.cell_within.ensures _ c.lowest_block-b.ensures _ _ c.loop-i.invariant.1,
)
