-- Marks for blocks, and the blocks that are marked.
-- Assumes nothing.
use Rattle.std.specs.Prelude.{◌≡◌, Bool, true, false, List, ℕ, zero, suc, get_or, length, set, Result, Ok, Err}
use Rattle.lists.specs.Lists.{consecutive, keep, laid}
use Rattle.cells.specs.declared.Triple.{Triple}
use Rattle.cutting.specs.Cutting.{Cutting, good_cut}
use Rattle.joiner.specs.Stages.{lowest_block}
use Rattle.refusals.specs.declared.Refusal.{Refusal}
use Rattle.blocks.specs.Blocks.{cut_by}
use Rattle.blocks.specs.declared.Cuts.{Cuts}
use Rattle.cell_calls.specs.Cells.{CellLists, cell_lists, cell_at, all_in_grid, needed_blocks}
use Rattle.judge_cells.specs.declared.CellLists as lent

-- The cells of the lists that the code is lent.
abbrev pub lists_of : lent.CellLists → CellLists
lists_of l = cell_lists l.x.now l.y.now l.z.now

-- How many blocks an answer tells: none where it is refused.
abbrev pub count_of : Result ℕ Refusal → ℕ
count_of (Ok n) = n
count_of (Err r) = 0

-- The marks, with the lowest-numbered block of each of the first n cells marked.
unfoldable pub marked_by : Cutting → CellLists → ℕ → List Bool → List Bool
marked_by k l zero marks = marks
marked_by k l (suc n) marks = set (marked_by k l n marks) (lowest_block k (cell_at l n)) true

-- Block b is marked.
unfoldable pub is_marked : List Bool → ℕ → Bool
is_marked marks b = get_or marks b false

-- The marked ones of n blocks, ascending.
unfoldable pub marked_blocks : List Bool → ℕ → List ℕ
marked_blocks marks n = keep (is_marked marks) (consecutive 0 n)

-- What the tests of a request find before its blocks are listed: the cuts are good, and the cells are in the grid.
pub record Ready (k : Cutting) (l : CellLists) : Type 0 where
  pub good : good_cut k ≡ true
  pub inside : all_in_grid k.extents l ≡ true

-- .. of a volume that has these cut lists.
pub record SomeReady (c : Cuts) (l : CellLists) : Type 0 where
  pub extents : Triple
  pub ready : Ready (cut_by extents c) l

-- The needed blocks stand in the first places of tray u, which was t before, and are n.
abbrev pub Lists : Cutting → CellLists → ℕ → List ℕ → List ℕ → Type 0
Lists k l n t u = (n ≡ length (needed_blocks k l)) × (u ≡ laid 0 (needed_blocks k l) t)
