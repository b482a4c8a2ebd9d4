-- What an enrolment writes for the components of one order, by what a `Block` tells. `enrolled_key_lem`, `enrolled_face` and `enrolled_curve` say that it is
-- the joiner's `enrolled_key` and `enrolled_row`.
-- Assumes nothing.
use Rattle.std.specs.Prelude.{◌≡◌, cond, List, [], ◌∷◌, ℕ, suc, ◌+◌, ◌-◌, ◌/◌, ◌%◌, ◌≤◌, ◌<◌, eqb, get_or, length, set}
use Rattle.cells.specs.Box.{triple, coord, place}
use Rattle.cells.specs.declared.Axis.{Axis}
use Rattle.cells.specs.declared.Triple.{Triple}
use Rattle.cells.specs.Extents.{Sized}
use Rattle.cells.specs.Grid.{sides, cells}
use Rattle.cells.specs.Row.{row_of, row}
use Rattle.labels.specs.Components.{component, component_row}
use Rattle.lines.specs.Lines.{line_count, LineAt}
use Rattle.lines.specs.declared.Line.{Line}
use Rattle.joiner.specs.Job.{key_of, key_position}
use Rattle.blocks.specs.Blocks.{origin_of, size_of, local_in, embed_in}
use Rattle.blocks.specs.declared.Block.{Block}

-- The block lies in a volume of extents v.
pub record Lies (v : Triple) (r : Block) : Type 0 where
  pub sized : Sized 64 (size_of r)
  pub whole : Sized 1024 v
  pub ends : (a : Axis) → coord (origin_of r) a + coord (size_of r) a ≤ coord v a

-- The position in the volume of cell p of the block, and of the first cell of a list, 0 where it has none.
unfoldable pub position_in : Triple → Block → ℕ → ℕ
position_in v r p = embed_in v r (place (sides (size_of r)) p)

unfoldable pub first_in : Triple → Block → List ℕ → ℕ
first_in v r [] = 0
first_in v r (p ∷ ps) = position_in v r p

-- The key of number n of order j, where the block is block b.
unfoldable pub key_in : Triple → Block → ℕ → List ℕ → ℕ → ℕ → ℕ
key_in v r b m j n = key_of (first_in v r (component (size_of r) m j n)) b

-- An entry of a row with the block's first place added: 0 stays 0.
unfoldable pub shift_by : ℕ → ℕ → ℕ
shift_by shift x = cond (eqb x 0) 0 (shift + x)

-- Place i of the row of number n.
unfoldable pub row_in : Triple → ℕ → List ℕ → ℕ → ℕ → ℕ → ℕ
row_in e shift m j n i = shift_by shift (get_or (component_row e m j n) i 0)

-- ---- what the inner functions leave and answer

-- A cell with number n writes its key: 0 has no place.
unfoldable pub key_put : ℕ → ℕ → ℕ → List ℕ → List ℕ
key_put from n key t = cond (eqb n 0) t (set t (from + (n - 1)) key)

-- The cells of a list do, the last one first.
unfoldable pub keyed : Triple → Block → ℕ → List ℕ → ℕ → List ℕ → List ℕ → List ℕ
keyed v r b m from [] t = t
keyed v r b m from (p ∷ ps) t = key_put from (get_or m p 0) (key_of (position_in v r p) b) (keyed v r b m from ps t)

-- Line l, told for its cells of order j: in the volume it begins at `at`.
pub record Along (v : Triple) (r : Block) (m : List ℕ) (j l : ℕ) (line : Line) (at : ℕ) : Type 0 where
  pub lies : Lies v r
  pub size : length m ≡ cells (size_of r)
  pub below : j ≤ 2
  pub on : l < line_count (size_of r)
  pub told : LineAt (size_of r) (3 - j) l line
  pub begins : at ≡ embed_in v r (triple 0 (l % (sides (size_of r)).y) (l / (sides (size_of r)).y))

-- The row of the cell at a position of the volume: none at position 0, which is a voxel.
unfoldable pub row_for : Triple → Block → List ℕ → ℕ → List ℕ
row_for v r m p = cond (eqb p 0) (row_of []) (row (size_of r) m (local_in r (place (sides v) p)))

-- The keys from `from` on hold the first positions of the numbers of order j.
pub record FirstKeys (v : Triple) (r : Block) (m : List ℕ) (j : ℕ) (keys : List ℕ) (from count : ℕ) : Type 0 where
  pub room : from + count ≤ length keys
  pub at : (i : ℕ) → i < count → key_position (get_or keys (from + i) 0) ≡ first_in v r (component (size_of r) m j (suc i))
