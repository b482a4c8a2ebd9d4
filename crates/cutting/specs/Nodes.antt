-- The graph that joining works on, for the laws: a node is a block and a number of order j in it.
-- Assumes nothing.
use Rattle.std.specs.Prelude.{◌≡◌, Bool, true, List, ℕ, ◌<◌, get_or}
use Rattle.cells.specs.Grid.{cells, order}
use Rattle.cells.specs.Row.{row, active}
use Rattle.labels.specs.Number.{labels}
use Rattle.labels.specs.Numbering.{Meet}
use Rattle.cutting.specs.Cutting.{Cutting, blocks, block_extents, block_codes, embed, seam}

-- The map of the uncut volume, and of its block b.
abbrev pub uncut_map : Cutting → List ℕ → List ℕ
uncut_map k codes = labels k.extents codes

abbrev pub part : Cutting → List ℕ → ℕ → List ℕ
part k codes b = labels (block_extents k b) (block_codes k b codes)

-- Cell t of the volume is a cell of block b.
pub record BlockHas (k : Cutting) (b t : ℕ) : Type 0 where
  pub p : ℕ
  pub within : p < cells (block_extents k b)
  pub is : embed k b p ≡ t

-- A path of seams, taken either way, between blocks that hold cell t.
pub data SeamPath (k : Cutting) (t : ℕ) : ℕ → ℕ → Type 0 where
  stay : {b : ℕ} → SeamPath k t b b
  next : {b c d : ℕ} → c < blocks k → seam k b c ≡ true → BlockHas k c t → SeamPath k t c d → SeamPath k t b d
  last : {b c d : ℕ} → c < blocks k → seam k c b ≡ true → BlockHas k c t → SeamPath k t c d → SeamPath k t b d

-- Cell p of block b is active, has order j, and number n there.
pub record Sees (k : Cutting) (codes : List ℕ) (j b n p : ℕ) : Type 0 where
  pub listed : b < blocks k
  pub within : p < cells (block_extents k b)
  pub level : order (block_extents k b) p ≡ j
  pub act : active (block_extents k b) (part k codes b) p ≡ true
  pub has : get_or (part k codes b) p 0 ≡ n

-- Number m of block b and number n of block c are seen at one cell of a seam.
pub record AtSeam (k : Cutting) (codes : List ℕ) (j b m c n : ℕ) : Type 0 where
  pub joint : seam k b c ≡ true
  pub p : ℕ
  pub q : ℕ
  pub one : Sees k codes j b m p
  pub two : Sees k codes j c n q
  pub same : embed k b p ≡ embed k c q

-- Numbers m and n of block b are those of two cells that meet, with one row in the volume.
pub record AtCrossing (k : Cutting) (codes : List ℕ) (j b m n : ℕ) : Type 0 where
  pub p : ℕ
  pub q : ℕ
  pub one : Sees k codes j b m p
  pub two : Sees k codes j b n q
  pub meet : Meet (block_extents k b) p q
  pub same : row k.extents (uncut_map k codes) (embed k b p) ≡ row k.extents (uncut_map k codes) (embed k b q)

-- Nodes tied by seams and, if told so, by crossings.
pub data Tied (k : Cutting) (codes : List ℕ) (j : ℕ) (crossings : Bool) : ℕ → ℕ → ℕ → ℕ → Type 0 where
  done : {b m : ℕ} → Tied k codes j crossings b m b m
  over : {b m c n d o : ℕ} → AtSeam k codes j b m c n → Tied k codes j crossings c n d o → Tied k codes j crossings b m d o
  under : {b m c n d o : ℕ} → AtSeam k codes j c n b m → Tied k codes j crossings c n d o → Tied k codes j crossings b m d o
  crossed : {b m n d o : ℕ} → crossings ≡ true → AtCrossing k codes j b m n → Tied k codes j crossings b n d o → Tied k codes j crossings b m d o
