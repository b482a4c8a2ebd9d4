-- The blocks of the cells before i are marked.
use Rattle.std.proofs.Common.{◌≡◌, length}
use Rattle.cutting.specs.Cutting.{most_blocks}
use Rattle.blocks.specs.Blocks.{AnyExtents}
use Rattle.reading_blocks.specs.Marks.{lists_of, marked_by, Ready}
use Rattle.reading_blocks.proofs.mark_blocks.Given as goal

abbrev pub invariant-loop-i : goal.invariant-loop-i
invariant-loop-i l = (length l.marks ≡ most_blocks) × AnyExtents l.cuts (λ k. Ready k (lists_of l.cells) → l.marks ≡ marked_by k (lists_of l.cells) l.i l.initial.marks)
