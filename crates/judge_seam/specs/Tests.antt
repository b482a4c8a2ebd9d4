-- The tests of a seam step, by lengths and by the entries of the block table, and the layer that its blocks share.
-- Assumes nothing.
use Rattle.std.specs.Prelude.{◌≡◌, Bool, true, false, ◌&&◌, List, ℕ, eqb}
use Rattle.cells.specs.declared.Triple.{Triple}
use Rattle.cells.specs.Grid.{cells, sides}
use Rattle.cutting.specs.Cutting.{Cutting, good_cut, seam}
use Rattle.joiner.specs.Job.{Kind, Tables}
use Rattle.joiner.specs.Stages.{seam_axis}
use Rattle.layers.specs.Layers.{axis_of, columns_of, rows_of}
use Rattle.pass_seam.specs.Walks.{LayerOf}
use Rattle.blocks.specs.Blocks.{Tells, size_of}
use Rattle.blocks.specs.declared.Block.{Block}
use Rattle.job.specs.Lent.{no_tables, seam_lent}
use Rattle.judge.specs.declared.CallName.{CallName}
use Rattle.judge.specs.declared.Entry.{Entry}
use Rattle.judge.specs.declared.Lengths.{Lengths}
use Rattle.judge.specs.Judge.{fits_lengths, map_stands_in, links_stand_in}
use Rattle.judge_seam.specs.declared.Shared.{Shared}

-- The tables that a seam step is lent. The others go unread.
abbrev pub lent : List ℕ → List ℕ → List ℕ → List ℕ → Tables
lent ticks blocks faces curves = seam_lent no_tables ticks blocks faces curves

-- ---- the tests

-- 6 denies it: the maps of blocks of e and f voxels have so many cells, and the tables have the stated lengths.
unfoldable pub fits_both : ℕ → Triple → Triple → (Kind → ℕ) → Lengths → ℕ → ℕ → Bool
fits_both count e f entries z lower upper = fits_lengths CallName.Seam count e entries z lower && eqb upper (cells f)

-- 8 denies it, besides what it denies of the lower block's map: the upper block's map keeps to its entry g, and the links of both blocks may be followed.
unfoldable pub upper_stands : Triple → Entry → Entry → ℕ → ℕ → List ℕ → List ℕ → List ℕ → Bool
upper_stands f d g all_faces all_curves n faces curves = map_stands_in f g all_faces all_curves n && (links_stand_in d faces curves && links_stand_in g faces curves)

-- ---- the layer

-- The blocks, and the axis by number, are those of seam b, c.
pub record SeamOf (k : Cutting) (b c axis : ℕ) (low high : Block) : Type 0 where
  pub good : good_cut k ≡ true
  pub is_seam : seam k b c ≡ true
  pub number : axis ≡ seam_axis k b c
  pub tells_low : Tells k b low
  pub tells_high : Tells k c high

-- What holds of every seam of these blocks.
abbrev pub AnySeam : ℕ → Block → Block → (Cutting → ℕ → ℕ → Type 0) → Type 0
AnySeam axis low high P = (k : Cutting) (b c : ℕ) → SeamOf k b c axis low high → P k b c

-- The layer that two blocks share across an axis, in both maps.
pub record SharedBy (low high : Block) (axis : ℕ) (s : Shared) : Type 0 where
  pub last : LayerOf (size_of low) (axis_of axis) true s.lower
  pub first : LayerOf (size_of high) (axis_of axis) false s.upper
  pub wide : s.columns ≡ columns_of (sides (size_of low)) (axis_of axis)
  pub deep : s.rows ≡ rows_of (sides (size_of low)) (axis_of axis)
