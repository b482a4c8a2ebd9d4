-- Cells looked up together (document 02, item 12): the list of cells, and the blocks that they are read from.
-- Assumes nothing.
use Rattle.std.specs.Prelude.{Bool, ◌&&◌, List, ℕ, min, eqb, ltb, get_or, length}
use Rattle.lists.specs.Lists.{consecutive, keep, all_of, some_of}
use Rattle.cells.specs.Box.{triple}
use Rattle.cells.specs.declared.Triple.{Triple}
use Rattle.cells.specs.Grid.{sides}
use Rattle.cutting.specs.Cutting.{Cutting, blocks}
use Rattle.joiner.specs.Stages.{lowest_block}

-- "The viewer sends cells .. in any order, repeats allowed": each by its place in the volume, the coordinates in three lists.
pub record CellLists : Type 0 where
  pub xs : List ℕ
  pub ys : List ℕ
  pub zs : List ℕ

-- The three together.
abbrev pub cell_lists : List ℕ → List ℕ → List ℕ → CellLists
cell_lists xs ys zs = record { xs = xs; ys = ys; zs = zs }

-- How many cells they are: as many as the shortest list has.
unfoldable pub cell_count : CellLists → ℕ
cell_count l = min (length l.xs) (min (length l.ys) (length l.zs))

-- Cell i of the list.
unfoldable pub cell_at : CellLists → ℕ → Triple
cell_at l i = triple (get_or l.xs i 0) (get_or l.ys i 0) (get_or l.zs i 0)

-- A place is one of a grid with so many on each axis.
unfoldable pub in_grid : Triple → Triple → Bool
in_grid s c = ltb c.x s.x && (ltb c.y s.y && ltb c.z s.z)

-- Every cell of the list is one of the volume's grid.
unfoldable pub all_in_grid : Triple → CellLists → Bool
all_in_grid e l = all_of (λ i. in_grid (sides e) (cell_at l i)) (consecutive 0 (cell_count l))

-- "A cell in several blocks is read from the lowest-numbered": cell i is read from block b.
unfoldable pub read_from : Cutting → CellLists → ℕ → ℕ → Bool
read_from k l b i = eqb (lowest_block k (cell_at l i)) b

-- Block b is needed: some cell is read from it.
unfoldable pub is_needed : Cutting → CellLists → ℕ → Bool
is_needed k l b = some_of (read_from k l b) (consecutive 0 (cell_count l))

-- "The list of blocks whose records are requested has each needed block exactly once, ascending."
unfoldable pub needed_blocks : Cutting → CellLists → List ℕ
needed_blocks k l = keep (is_needed k l) (consecutive 0 (blocks k))
