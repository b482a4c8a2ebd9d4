-- Which cells of a block are its own: those that no lower-numbered block has. "A face cell in an overlap counts once, with the lowest-numbered block
-- that has it" (document 02, item 1).
-- Assumes nothing.
use Rattle.std.specs.Prelude.{Bool, ◌&&◌, List, ℕ, suc, ◌-◌, ◌*◌, ◌<◌, ◌≤◌, min, leb}
use Rattle.cells.specs.Box.{coord, each, place}
use Rattle.cells.specs.declared.Axis.{Axis}
use Rattle.cells.specs.declared.Triple.{Triple}
use Rattle.cells.specs.Grid.{sides}
use Rattle.cutting.specs.Cutting.{Cutting, intervals, low_end, interval, block_extents}
use Rattle.blocks.specs.Blocks.{origin_of, has_in}
use Rattle.blocks.specs.declared.Block.{Block}

-- 1 on an axis on which a block stands before block b, and else 0: the first coordinate of its own cells.
unfoldable pub starts : Cutting → ℕ → Triple
starts k b = each (λ a. min 1 (interval k b a))

-- Place c of a block is at or after the starts on every axis.
unfoldable pub starts_by : Triple → Triple → Bool
starts_by s c = leb s.x c.x && (leb s.y c.y && leb s.z c.z)

-- Cell p counts with block b: its place is at or after the block's starts. `own_lowest` says that this is `is_lowest`.
unfoldable pub own_cell : Cutting → ℕ → ℕ → Bool
own_cell k b p = starts_by (starts k b) (place (sides (block_extents k b)) p)

-- What holds of a cutting with these lists on x and y whatever the extents and the list on z are.
abbrev pub AnyDepth : List ℕ → List ℕ → (Cutting → Type 0) → Type 0
AnyDepth cx cy P = (e : Triple) (cz : List ℕ) → P (record { extents = e; cx = cx; cy = cy; cz = cz })

-- ---- the lowest-numbered block of a cell

-- The block has the cell at place c of the volume, at or after its starts s. `own_in_lowest` says that it is then the lowest-numbered one that has it.
unfoldable pub own_in : Block → Triple → Triple → Bool
own_in r s c = has_in r c && starts_by s (each (λ a. coord c a - 2 * coord (origin_of r) a))

-- Interval r of a cut list is the first one that has coordinate x of a cell: it begins before x, unless it is the first of all, and the next one does not.
pub record FirstInterval (c : List ℕ) (x r : ℕ) : Type 0 where
  pub within : r < intervals c
  pub begun : 0 < r → 2 * low_end c r < x
  pub next_not : suc r < intervals c → x ≤ 2 * low_end c (suc r)

-- A place of the volume.
abbrev pub InVolume : Cutting → Triple → Type 0
InVolume k c = (a : Axis) → coord c a < coord (sides k.extents) a
