-- The points of a block of e voxels, by its map, the curves' final numbers, and the place of the block's first curve. `found_cells_lem` and
-- `found_row_lem` say that they are the joiner's `point_cells` and `final_row`.
-- Assumes nothing.
use Rattle.std.specs.Prelude.{◌≡◌, cond, List, [], ◌∷◌, map, ℕ, suc, ◌+◌, ◌-◌, ◌*◌, ◌≤◌, ◌<◌, eqb, get_or, length}
use Rattle.lists.specs.Lists.{keep, overlay}
use Rattle.cells.specs.declared.Triple.{Triple}
use Rattle.cells.specs.Extents.{Sized}
use Rattle.cells.specs.Grid.{cells, order, upper_neighbours}
use Rattle.cells.specs.Row.{row_of, occupied}
use Rattle.labels.specs.Components.{of_order}
use Rattle.joiner.specs.Job.{key_of}
use Rattle.blocks.specs.Blocks.{size_of}
use Rattle.blocks.specs.declared.Block.{Block}
use Rattle.pass_enrol.specs.EnrolledRows.{position_in}

-- The final number of number n of the block: 0 stays 0.
unfoldable pub final_in : List ℕ → ℕ → ℕ → ℕ
final_in numbers from n = cond (eqb n 0) 0 (get_or numbers (from + (n - 1)) 0)

-- "Point rows are worked out over the final curves."
unfoldable pub found_row : Triple → List ℕ → ℕ → List ℕ → ℕ → List ℕ
found_row e numbers from m p = row_of (map (λ q. final_in numbers from (get_or m q 0)) (upper_neighbours e p))

-- The cells of a list that are points of the volume.
unfoldable pub found_among : Triple → List ℕ → ℕ → List ℕ → List ℕ → List ℕ
found_among e numbers from m ps = keep (λ p. occupied (found_row e numbers from m p)) ps

-- The point cells that are.
unfoldable pub found_cells : Triple → List ℕ → ℕ → List ℕ → List ℕ
found_cells e numbers from m = found_among e numbers from m (of_order e 0)

-- ---- what the inner functions leave and answer

-- The final numbers of a list.
unfoldable pub finals_in : List ℕ → ℕ → List ℕ → List ℕ
finals_in numbers from xs = map (final_in numbers from) xs

-- Cell p of a block of e voxels with map m is a point cell.
pub record PointCell (e : Triple) (m : List ℕ) (p : ℕ) : Type 0 where
  pub sized : Sized 64 e
  pub size : length m ≡ cells e
  pub within : p < cells e
  pub level : order e p ≡ 0

-- Place i of the row of cell p, and its key, where the block is block b.
unfoldable pub row_entry : Block → List ℕ → ℕ → List ℕ → ℕ → ℕ → ℕ
row_entry r numbers from m p i = get_or (found_row (size_of r) numbers from m p) i 0

unfoldable pub key_at : Triple → Block → ℕ → ℕ → ℕ → ℕ
key_at v r b p i = key_of (position_in v r p) b

-- A table with w entries for each cell of a list, from place `at` on: those of cell p are f p.
unfoldable pub written : ℕ → (ℕ → ℕ → ℕ) → List ℕ → ℕ → List ℕ → List ℕ
written w f [] at xs = xs
written w f (p ∷ ps) at xs = written w f ps (suc at) (overlay xs (w * at) (f p) w)

-- The points among the cells ps are stored from place `at` on, and n is the next place.
pub record Stored (v : Triple) (r : Block) (b : ℕ) (m numbers : List ℕ) (from : ℕ) (ps : List ℕ) (at : ℕ) (keys rows keys' rows' : List ℕ) (n : ℕ) : Type 0 where
  pub next : n ≡ at + length (found_among (size_of r) numbers from m ps)
  pub keys_are : keys' ≡ written 1 (key_at v r b) (found_among (size_of r) numbers from m ps) at keys
  pub rows_are : rows' ≡ written 6 (row_entry r numbers from m) (found_among (size_of r) numbers from m ps) at rows

-- Tables of k keys and l row entries have room for n points from place `at` on.
pub record Room (n at k l : ℕ) : Type 0 where
  pub on_keys : at + n ≤ k
  pub on_rows : 6 * (at + n) ≤ l
