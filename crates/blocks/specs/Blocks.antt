-- Blocks by the lent cut lists (document 01, "Cutting and joining").
-- Assumes nothing.
use Rattle.std.specs.Prelude.{◌≡◌, Bool, ◌&&◌, ◌||◌, List, ℕ, suc, ◌+◌, ◌-◌, ◌*◌, ◌/◌, ◌%◌, eqb, leb, ltb}
use Rattle.cells.specs.Box.{triple, coord, each, index}
use Rattle.cells.specs.declared.Axis.{Axis}
use Rattle.cells.specs.declared.Axis.TheVariants.{X, Y, Z}
use Rattle.cells.specs.declared.Triple.{Triple}
use Rattle.cells.specs.Grid.{sides}
use Rattle.cutting.specs.Cutting.{Cutting, origin, block_extents, low_end, high_end}
use Rattle.blocks.specs.declared.Block.{Block}
use Rattle.blocks.specs.declared.Cuts.{Cuts}
use Rattle.blocks.specs.declared.Side.{Side}

-- The cutting that extents and cut lists state.
abbrev pub cut_of : ℕ → ℕ → ℕ → List ℕ → List ℕ → List ℕ → Cutting
cut_of nx ny nz cx cy cz = record { extents = triple nx ny nz; cx = cx; cy = cy; cz = cz }

-- .. of lent lists.
abbrev pub cut_by : Triple → Cuts → Cutting
cut_by e c = record { extents = e; cx = c.x.now; cy = c.y.now; cz = c.z.now }

-- What holds of the cutting of these lists whatever the extents are.
abbrev pub AnyExtents : Cuts → (Cutting → Type 0) → Type 0
AnyExtents c P = (e : Triple) → P (cut_by e c)

-- The origin and the extents that a `Block` tells.
abbrev pub origin_of : Block → Triple
origin_of r = r.origin

abbrev pub size_of : Block → Triple
size_of r = r.size

-- A `Block` that tells those of block b.
pub record Tells (k : Cutting) (b : ℕ) (r : Block) : Type 0 where
  pub first : origin_of r ≡ origin k b
  pub size : size_of r ≡ block_extents k b

-- The joiner's `has_on`, `has_cell` and `local`, by what a `Block` tells. `has_told` and `local_told` say that they are the same.
unfoldable pub in_on : Block → Triple → Axis → Bool
in_on r c a = leb (2 * coord (origin_of r) a) (coord c a) && ltb (coord c a) (2 * coord (origin_of r) a + coord (sides (size_of r)) a)

unfoldable pub has_in : Block → Triple → Bool
has_in r c = in_on r c X && (in_on r c Y && in_on r c Z)

unfoldable pub local_in : Block → Triple → ℕ
local_in r c = index (sides (size_of r)) (each (λ a. coord c a - 2 * coord (origin_of r) a))

-- The place in the volume of a place in the block, and its position, if the volume has extents e. `embed_told` says that it is `embed`.
unfoldable pub shift_in : Block → Triple → Triple
shift_in r c = each (λ a. 2 * coord (origin_of r) a + coord c a)

unfoldable pub embed_in : Triple → Block → Triple → ℕ
embed_in e r c = index (sides e) (shift_in r c)

-- ---- what the inner functions answer

-- The first voxel of an interval, and how many voxels it takes in.
unfoldable pub side_of : List ℕ → ℕ → Side
side_of c i = record { first = low_end c i; size = high_end c i - low_end c i + 1 }

-- The intervals of block b, where w and h intervals are on x and y.
unfoldable pub place_of : ℕ → ℕ → ℕ → Triple
place_of w h b = record { x = b % w; y = b / w % h; z = b / (w * h) }

-- The blocks at two places "differ by one on one axis only", the lower one first.
unfoldable pub beside : Triple → Triple → Bool
beside p q =
    (eqb q.x (suc p.x) && eqb q.y p.y && eqb q.z p.z) || (eqb q.x p.x && eqb q.y (suc p.y) && eqb q.z p.z) || (eqb q.x p.x && eqb q.y p.y && eqb q.z (suc p.z))

-- The number of an axis: 1 for x, 2 for y, 3 for z.
abbrev pub axis_number : Axis → ℕ
axis_number X = 1
axis_number Y = 2
axis_number Z = 3
