-- What callers learn of a `Block`, and of lists that are a good cut.
-- Assumes nothing.
use mathlib.Core.Path.{◌≡◌, sym, ap, ap₂}
use mathlib.Core.Bool.{Bool, true, ◌&&◌}
use Prim.Native.Nat.{ℕ, ◌+◌, ◌-◌, ◌*◌, ◌≤◌, ◌<◌}
use native.Mathlib.Omega.{arith}
use lib.Dec.{leb, ltb}
use borrow.Author.Tests.{leb-true, ltb-true}
use Rattle.cells.specs.Box.{coord, each, index}
use Rattle.cells.specs.declared.Axis.{Axis}
use Rattle.cells.specs.declared.Axis.TheVariants.{X, Y, Z}
use Rattle.cells.specs.declared.Triple.{Triple}
use Rattle.cells.specs.Extents.{Sized}
use Rattle.cells.specs.Grid.{sides}
use Rattle.cutting.specs.Cutting.{Cutting, cut_list, good_cut, blocks, block_extents, embed, most_blocks, FewBlocks}
use Rattle.joiner.specs.Stages.{has_on, has_cell, local}
use Rattle.blocks.specs.Blocks.{origin_of, size_of, Tells, in_on, has_in, local_in, shift_in, embed_in}
use Rattle.blocks.specs.declared.Block.{Block}
use Rattle.lists.proofs.Cases.{and_first, and_second}
use Rattle.cells.proofs.BoxLaws.{Inside}
use Rattle.cutting.proofs.CutLaws.{block_sized, block_ends, shift_into, shift_inside, embed_at}
use Rattle.blocks.proofs.CodeLaws.{blocks_are}

-- what `block_count` requires
pub good_few : (k : Cutting) → good_cut k ≡ true → FewBlocks k.cx k.cy k.cz
unfolding good_cut
good_few k t =
    omega (arith, sym (blocks_are k), leb-true (blocks k) most_blocks (and_second (cut_list k.extents.x k.cx && cut_list k.extents.y k.cy && cut_list k.extents.z k.cz) (leb (blocks k) most_blocks) t))

-- ---- what `has_in` says on each axis

module _ (r : Block) (c : Triple) (t : has_in r c ≡ true) where
  in_on_lem : (a : Axis) → in_on r c a ≡ true
  unfolding has_in
  in_on_lem X = and_first (in_on r c X) (in_on r c Y && in_on r c Z) t
  in_on_lem Y = and_first (in_on r c Y) (in_on r c Z) (and_second (in_on r c X) (in_on r c Y && in_on r c Z) t)
  in_on_lem Z = and_second (in_on r c Y) (in_on r c Z) (and_second (in_on r c X) (in_on r c Y && in_on r c Z) t)

  pub in_low : (a : Axis) → 2 * coord (origin_of r) a ≤ coord c a
  unfolding in_on
  in_low a = leb-true _ _ (and_first (leb (2 * coord (origin_of r) a) (coord c a)) (ltb (coord c a) (2 * coord (origin_of r) a + coord (sides (size_of r)) a)) (in_on_lem a))

  pub in_high : (a : Axis) → coord c a < 2 * coord (origin_of r) a + coord (sides (size_of r)) a
  unfolding in_on
  in_high a = ltb-true _ _ (and_second (leb (2 * coord (origin_of r) a) (coord c a)) (ltb (coord c a) (2 * coord (origin_of r) a + coord (sides (size_of r)) a)) (in_on_lem a))

-- ---- a `Block` that tells the numbers of block b

abbrev on : Triple → Triple → Triple → Axis → Bool
on o e c a = leb (2 * coord o a) (coord c a) && ltb (coord c a) (2 * coord o a + coord (sides e) a)

module _ (k : Cutting) (b : ℕ) (r : Block) (m : Tells k b r) where
  -- the definitions over a `Block` are those of the joiner
  pub has_told : (c : Triple) → has_in r c ≡ has_cell k b c
  unfolding has_in in_on has_cell has_on
  has_told c = ap₂ {C = Bool} (λ (o e : Triple). on o e c X && (on o e c Y && on o e c Z)) m.first m.size

  pub local_told : (c : Triple) → local_in r c ≡ local k b c
  unfolding local_in local
  local_told c = ap₂ {C = ℕ} (λ (o e : Triple). index (sides e) (each (λ a. coord c a - 2 * coord o a))) m.first m.size

  shift_told : (c : Triple) → shift_in r c ≡ shift_into k b c
  unfolding shift_in shift_into
  shift_told c = ap (λ (o : Triple). each (λ a. 2 * coord o a + coord c a)) m.first

  module _ (good : good_cut k ≡ true) (hb : b < blocks k) where
    -- its extents are from 1 to 64, and it lies in the volume
    pub told_sized : Sized 64 (size_of r)
    told_sized = rw m.size (block_sized k good b hb)

    pub told_ends : (a : Axis) → coord (origin_of r) a + coord (size_of r) a ≤ coord k.extents a
    told_ends a = rw (m.first, m.size) (block_ends k good b hb a)

    -- the cell at a place of the block, in the volume: what `embed` requires, and what it answers
    module _ (c : Triple) (i : Inside (sides (size_of r)) c) where
      inside_told : Inside (sides (block_extents k b)) c
      inside_told = rw m.size at i

      pub shift_inside_told : Inside (sides k.extents) (shift_in r c)
      shift_inside_told = rw (shift_told c) (shift_inside k good b hb c inside_told)

      pub embed_told : embed_in k.extents r c ≡ embed k b (index (sides (block_extents k b)) c)
      unfolding embed_in
      embed_told = rw (shift_told c) (sym (embed_at k good b hb c inside_told))
