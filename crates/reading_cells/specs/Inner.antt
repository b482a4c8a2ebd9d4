-- The tests and the numbers of a filling, by what the code has of the block that is read.
-- Assumes nothing.
use Rattle.std.specs.Prelude.{◌≡◌, Bool, true, not, cond, ◌||◌, List, ℕ, ◌≤◌, ◌<◌, get_or}
use Rattle.cells.specs.declared.Triple.{Triple}
use Rattle.cells.specs.Extents.{Sized}
use Rattle.cells.specs.Grid.{sides}
use Rattle.cutting.specs.Cutting.{Cutting, blocks, good_cut}
use Rattle.blocks.specs.Blocks.{Tells, size_of, local_in}
use Rattle.job.specs.declared.Job.{Job}
use Rattle.judge.specs.Judge.{entry_of}
use Rattle.lowest.specs.Lowest.{starts, own_in}
use Rattle.reading_cell.specs.Inner.{number_in, look_in}
use Rattle.job.specs.Lent.{look_lent}
use Rattle.joiner.specs.Job.{Tables}
use Rattle.reading_cell.specs.declared.LookupTables.{LookupTables}
use Rattle.judge_cells.specs.declared.CellLists as code
use Rattle.cell_calls.specs.Cells.{CellLists, cell_lists, cell_at, in_grid, all_in_grid}
use Rattle.cell_calls.specs.Calls.{most_cells}
use Rattle.reading_cells.specs.declared.Source.{Source}

-- The cells that a call is sent.
abbrev pub sent : code.CellLists → CellLists
sent c = cell_lists c.x.now c.y.now c.z.now

-- The tables that a filling is lent, and every other out of t.
abbrev pub lent_over : Tables → LookupTables → Tables
lent_over t w = look_lent t w.ticks.now w.blocks.now w.faces.now w.curves.now w.points.now

-- The cell at place c is read from the block.
unfoldable pub is_own : Source → Triple → Bool
is_own f c = own_in f.block f.start c

-- What the map of the block holds at a place of the volume.
unfoldable pub held_at : Source → List ℕ → Triple → ℕ
held_at f m c = get_or m (local_in f.block c) 0

-- `cell_stands`, by these.
unfoldable pub stands_at : Job → Source → List ℕ → List ℕ → List ℕ → Triple → Bool
stands_at j f faces curves m c = not (is_own f c) || look_in j f.entry faces curves (held_at f m c) c

-- The answer of a cell: its number where it is read from the block, and else what stood there.
unfoldable pub answer_at : Job → Source → List ℕ → List ℕ → List ℕ → List ℕ → Triple → ℕ → ℕ
answer_at j f faces curves points m c old = cond (is_own f c) (number_in j f.entry faces curves points (held_at f m c) c) old

-- f tells what block b is: origin and extents, starts, and its entry in the block table.
pub record ReadsFrom (k : Cutting) (table : List ℕ) (b : ℕ) (f : Source) : Type 0 where
  pub block : Tells k b f.block
  pub start : f.start ≡ starts k b
  pub entry : f.entry ≡ entry_of table b

-- What the first of these tests find: the cuts are good, there is such a block, and the cells are in the grid.
pub record Placed (k : Cutting) (l : CellLists) (b : ℕ) : Type 0 where
  pub good : good_cut k ≡ true
  pub there : b < blocks k
  pub inside : all_in_grid k.extents l ≡ true

-- What the tests of a filling have found before the answers are stored: extents, block and cells are in bounds, and the tray has n places, not above the limit.
pub record Bounded (e : Triple) (f : Source) (l : CellLists) (n : ℕ) : Type 0 where
  pub sized : Sized 1024 e
  pub small_block : Sized 64 (size_of f.block)
  pub inside : (i : ℕ) → i < n → in_grid (sides e) (cell_at l i) ≡ true
  pub few : n ≤ most_cells
