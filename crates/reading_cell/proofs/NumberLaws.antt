-- The number by order and position is the joiner's `looked_up`.
-- Assumes nothing.
use mathlib.Core.Path.{◌≡◌, sym, ap, ◌∙◌}
use mathlib.Core.Bool.{Bool, true}
use mathlib.Core.List.{List}
use Prim.Native.Nat.{ℕ, ◌+◌, ◌-◌, ◌*◌, ◌%◌, ◌≤◌, ◌<◌}
use native.Mathlib.Omega.{arith}
use lib.ListN.{get_or}
use Rattle.cells.specs.Box.{coord, each, index}
use Rattle.cells.specs.declared.Axis.{Axis}
use Rattle.cells.specs.declared.Axis.TheVariants.{X, Y, Z}
use Rattle.cells.specs.declared.Triple.{Triple}
use Rattle.cells.specs.Extents.{Sized}
use Rattle.cells.specs.Grid.{sides, order}
use Rattle.cells.proofs.BoxLaws.{Inside}
use Rattle.cells.proofs.GridLaws.{odd_at}
use Rattle.cutting.specs.Cutting.{Cutting, blocks, block_extents, good_cut}
use Rattle.joiner.specs.Job.{from_of, node}
use Rattle.joiner.specs.Stages.{local}
use Rattle.joiner.specs.Declines.{final_of, handed_stands, look_stands, number_stands}
use Rattle.joiner.specs.Outcomes.{cell_number, looked_up}
use Rattle.blocks.specs.Blocks.{origin_of, size_of, Tells, has_in, local_in, shift_in, embed_in}
use Rattle.blocks.specs.declared.Block.{Block}
use Rattle.blocks.specs.declared.Cuts.{Cuts}
use Rattle.blocks.proofs.BlockLaws.{in_low, in_high, local_told, shift_inside_told}
use Rattle.job.specs.declared.Job.{Job}
use Rattle.job.specs.JobState.{job_by, state_by}
use Rattle.pass_point.specs.FoundPoints.{final_in}
use Rattle.judge.specs.declared.Entry.{Entry}
use Rattle.judge.specs.Judge.{entry_of, number_stands_in}
use Rattle.reading_cell.specs.Inner.{lent, order_at, HasPlace, number_in, handed_in, look_in}

-- ---- a cell of a block

even : (x o : ℕ) → 2 * o ≤ x → (x - 2 * o) % 2 ≡ x % 2
even x o h = omega (arith, h)

module _ (r : Block) (c : Triple) (t : has_in r c ≡ true) where
  -- its place in the block
  abbrev place_back : Triple
  place_back = each (λ a. coord c a - 2 * coord (origin_of r) a)

  back_inside : Inside (sides (size_of r)) place_back
  back_inside X = omega (arith, in_low r c t X, in_high r c t X)
  back_inside Y = omega (arith, in_low r c t Y, in_high r c t Y)
  back_inside Z = omega (arith, in_low r c t Z, in_high r c t Z)

  -- Its order goes by the parities in the volume.
  pub order_is : order (size_of r) (local_in r c) ≡ order_at c
  unfolding order local_in order_at
  order_is =
      rw (
        odd_at (size_of r) place_back back_inside X,
        odd_at (size_of r) place_back back_inside Y,
        odd_at (size_of r) place_back back_inside Z,
        even c.x r.origin.x (in_low r c t X),
        even c.y r.origin.y (in_low r c t Y),
        even c.z r.origin.z (in_low r c t Z),
      )

  -- The place in the volume of its place in the block is its own.
  pub shift_back : shift_in r place_back ≡ c
  unfolding shift_in
  shift_back =
      let x : 2 * r.origin.x + (c.x - 2 * r.origin.x) ≡ c.x = omega (arith, in_low r c t X) in
      let y : 2 * r.origin.y + (c.y - 2 * r.origin.y) ≡ c.y = omega (arith, in_low r c t Y) in
      let z : 2 * r.origin.z + (c.z - 2 * r.origin.z) ≡ c.z = omega (arith, in_low r c t Z) in
      rw (x, y, z)

-- ---- the position in the volume

module _ (e : Triple) (r : Block) (c : Triple) (h : HasPlace e r c) where
  pub embeds : Sized 1024 e × ((a : Axis) → coord (shift_in r (place_back r c h.has)) a < coord (sides e) a)
  embeds = (h.sized, λ a. rw (shift_back r c h.has) (h.inside a))

  pub position_is : (v : ℕ) → v ≡ embed_in e r (place_back r c h.has) → v ≡ index (sides e) c
  unfolding embed_in
  position_is v q = q ∙ ap (index (sides e)) (shift_back r c h.has)

-- ---- the joiner's number

module _ (j : Job) (cuts : Cuts) (ticks table faces curves points : List ℕ) (b : ℕ) (m : List ℕ) (c : Triple) where
  abbrev k : Cutting
  k = (job_by j cuts).told.cutting

  module _ (r : Block) (T : Tells k b r) (t : has_in r c ≡ true) where
    order_told : order (block_extents k b) (local k b c) ≡ order_at c
    order_told = rw (← local_told k b r T c, ← T.size) (order_is r c t)

    number_is : looked_up (state_by j cuts (lent ticks table faces curves points)) b m c ≡ number_in j (entry_of table b) faces curves points (get_or m (local k b c) 0) c
    unfolding looked_up cell_number number_in final_of node from_of final_in entry_of
    number_is = rw order_told

    hands_is : look_stands (state_by j cuts (lent ticks table faces curves points)) b m (local k b c) ≡ look_in j (entry_of table b) faces curves (get_or m (local k b c) 0) c
    unfolding look_stands handed_stands number_stands node from_of look_in handed_in number_stands_in entry_of
    hands_is = rw order_told

    pub looked_stands : (p n : ℕ) (d : Entry) (v : Bool) → p ≡ local_in r c → d ≡ entry_of table b → n ≡ get_or m p 0 → v ≡ look_in j d faces curves n c
        → v ≡ look_stands (state_by j cuts (lent ticks table faces curves points)) b m (local k b c)
    looked_stands p n d v e f g h = h ∙ rw (f, g, e, local_told k b r T c) (sym hands_is)

    -- What `look_up` puts together.
    pub looked_up_lem : (p n : ℕ) (d : Entry) (v : ℕ) → p ≡ local_in r c → d ≡ entry_of table b → n ≡ get_or m p 0 → v ≡ number_in j d faces curves points n c
        → v ≡ looked_up (state_by j cuts (lent ticks table faces curves points)) b m c
    looked_up_lem p n d v e f g h = h ∙ rw (f, g, e, local_told k b r T c) (sym number_is)

  -- A cell of the block is one of the volume.
  pub place_there : (r : Block) → Tells k b r → Sized 1024 k.extents → good_cut k ≡ true → b < blocks k → has_in r c ≡ true → HasPlace k.extents r c
  place_there r T s good hb t =
      record {
        sized = s;
        has = t;
        inside = rw (shift_back r c t) at (shift_inside_told k b r T good hb (place_back r c t) (back_inside r c t));
      }
