-- A volume cut into blocks (document 01, "Cutting and joining"). Blocks and intervals count from 0.
-- Assumes nothing.
use Rattle.std.specs.Prelude.{Bool, false, ◌&&◌, ◌||◌, List, [], ◌∷◌, ℕ, suc, ◌+◌, ◌-◌, ◌*◌, ◌≤◌, max, leb, ltb, eqb, get_or, length}
use Rattle.lists.specs.Lists.{tabulate}
use Rattle.cells.specs.Box.{coord, each, volume, index, place}
use Rattle.cells.specs.declared.Axis.{Axis}
use Rattle.cells.specs.declared.Axis.TheVariants.{X, Y, Z}
use Rattle.cells.specs.declared.Triple.{Triple}
use Rattle.cells.specs.Grid.{sides}

-- What an opening states of the cutting: the volume's extents and a cut list for each axis.
pub record Cutting : Type 0 where
  pub extents : Triple
  pub cx : List ℕ
  pub cy : List ℕ
  pub cz : List ℕ

abbrev pub cuts : Cutting → Axis → List ℕ
cuts k X = k.cx
cuts k Y = k.cy
cuts k Z = k.cz

-- From c on the list ascends, "neighbours at most 63 apart", up to its last entry, n−1.
unfoldable pub ascends : ℕ → ℕ → List ℕ → Bool
ascends n c [] = eqb (suc c) n
ascends n c (d ∷ ds) = ltb c d && leb d (c + 63) && ascends n d ds

-- "Each axis of n voxels has a cut list 0 = c0 < c1 < ... < cm = n−1. Where n = 1 the list is the single 0."
unfoldable pub cut_list : ℕ → List ℕ → Bool
cut_list n [] = false
cut_list n (c ∷ cs) = eqb c 0 && ascends n c cs

-- How many intervals a list has: the single 0 "gives one interval".
unfoldable pub intervals : List ℕ → ℕ
intervals c = max 1 (length c - 1)

-- "An interval takes in both its ends": the first and the last voxel of interval i.
unfoldable pub low_end : List ℕ → ℕ → ℕ
low_end c i = get_or c i 0

unfoldable pub high_end : List ℕ → ℕ → ℕ
high_end c i = get_or c (suc i) (low_end c i)

-- "Blocks are all products of intervals, numbered x fastest": how many there are on each axis, and in all.
unfoldable pub block_sides : Cutting → Triple
block_sides k = each (λ a. intervals (cuts k a))

unfoldable pub blocks : Cutting → ℕ
blocks k = volume (block_sides k)

-- The most blocks of a cutting: "at most 16,384".
abbrev pub most_blocks : ℕ
most_blocks = 16384

-- The blocks of three cut lists are at most so many.
abbrev pub FewBlocks : List ℕ → List ℕ → List ℕ → Type 0
FewBlocks cx cy cz = intervals cx * intervals cy * intervals cz ≤ most_blocks

-- Each cut list keeps its rule, and there are at most so many blocks. Refusal 2, bad cut, denies it.
unfoldable pub good_cut : Cutting → Bool
good_cut k = cut_list k.extents.x k.cx && cut_list k.extents.y k.cy && cut_list k.extents.z k.cz && leb (blocks k) most_blocks

-- The interval of block b on an axis.
unfoldable pub interval : Cutting → ℕ → Axis → ℕ
interval k b a = coord (place (block_sides k) b) a

-- The first voxel of block b, and its extents in voxels.
unfoldable pub origin : Cutting → ℕ → Triple
origin k b = each (λ a. low_end (cuts k a) (interval k b a))

unfoldable pub block_extents : Cutting → ℕ → Triple
block_extents k b = each (λ a. high_end (cuts k a) (interval k b a) - low_end (cuts k a) (interval k b a) + 1)

-- The position in the volume of cell p of block b.
unfoldable pub embed : Cutting → ℕ → ℕ → ℕ
embed k b p = index (sides k.extents) (each (λ a. 2 * coord (origin k b) a + coord (place (sides (block_extents k b)) p) a))

-- The codes of block b, out of the volume's.
unfoldable pub block_codes : Cutting → ℕ → List ℕ → List ℕ
block_codes k b codes =
    tabulate (volume (block_extents k b))
    (λ v. get_or codes (index k.extents (each (λ a. coord (origin k b) a + coord (place (block_extents k b) v) a))) 0)

-- Block c is the next one after block b along axis a, or level with it.
unfoldable pub follows : Cutting → ℕ → ℕ → Axis → Bool
follows k b c a = eqb (interval k c a) (suc (interval k b a))

unfoldable pub same_interval : Cutting → ℕ → ℕ → Axis → Bool
same_interval k b c a = eqb (interval k c a) (interval k b a)

-- "Two blocks share a side if they differ by one on one axis only; such a pair, lower block first, is a seam."
unfoldable pub seam : Cutting → ℕ → ℕ → Bool
seam k b c =
    ltb b (blocks k) && ltb c (blocks k) &&
    ((follows k b c X && same_interval k b c Y && same_interval k b c Z) || (same_interval k b c X && follows k b c Y && same_interval k b c Z) || (same_interval k b c X && same_interval k b c Y && follows k b c Z))
