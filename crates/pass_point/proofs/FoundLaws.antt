-- The points found are the joiner's.
-- Assumes nothing.
use mathlib.Core.Path.{◌≡◌, ap, ap₂, ◌∙◌}
use mathlib.Core.List.{List}
use Prim.Native.Nat.{ℕ, ◌+◌, ◌*◌, ◌/◌, ◌%◌, ◌≤◌}
use lib.ListN.{get_or, length}
use Rattle.lists.specs.Lists.{overlay}
use Rattle.lists.proofs.Overlay.{overlay_same}
use Rattle.cells.specs.Box.{coord, each, index, place}
use Rattle.cells.specs.declared.Triple.{Triple}
use Rattle.cells.specs.Grid.{sides}
use Rattle.cutting.specs.Cutting.{Cutting, block_extents, embed}
use Rattle.joiner.specs.Job.{Curve, Tables, from_of, node, key_of}
use Rattle.joiner.specs.Declines.{final_of, final_row, point_cells}
use Rattle.blocks.specs.Blocks.{size_of, Tells, shift_in, embed_in}
use Rattle.blocks.specs.declared.Block.{Block}
use Rattle.pass_enrol.specs.EnrolledRows.{position_in}
use Rattle.pass_point.specs.FoundPoints.{final_in, found_row, found_among, found_cells, Room}

-- A cutting and tables in which block b has e voxels, these final curves, and its first curve at `from`.
module _ (k : Cutting) (t : Tables) (b : ℕ) (m : List ℕ) {e : Triple} {numbers : List ℕ} {from : ℕ}
    (size : e ≡ block_extents k b) (curves : t.numbers Curve ≡ numbers) (place_is : from_of t Curve b ≡ from) where
  pub found_row_lem : (p : ℕ) → found_row e numbers from m p ≡ final_row k t b m p
  unfolding found_row final_in final_row final_of node
  found_row_lem p = rw (size, ← curves, ← place_is)

  pub found_cells_lem : found_cells e numbers from m ≡ point_cells k t b m
  unfolding found_cells found_among found_row final_in point_cells final_row final_of node
  found_cells_lem = rw (size, ← curves, ← place_is)

  -- what `store_points` requires of its tables, of x keys and y row entries
  pub found_room : (at x y : ℕ) → at + length (point_cells k t b m) ≤ x → 6 * (at + length (point_cells k t b m)) ≤ y → Room (length (found_cells e numbers from m)) at x y
  found_room at x y h g = rw found_cells_lem (record { on_keys = h; on_rows = g })

-- A `Block` that tells those of block b.
pub position_told : (k : Cutting) (b : ℕ) (r : Block) → Tells k b r → (p : ℕ) → position_in k.extents r p ≡ embed k b p
unfolding position_in embed_in shift_in embed
position_told k b r T p = ap₂ {C = ℕ} (λ (o e : Triple). index (sides k.extents) (each (λ a. 2 * coord o a + coord (place (sides e) p) a))) T.first T.size

module _ (k : Cutting) (t : Tables) (b : ℕ) (m : List ℕ) (r : Block) (T : Tells k b r) {numbers : List ℕ} {from : ℕ}
    (curves : t.numbers Curve ≡ numbers) (place_is : from_of t Curve b ≡ from) (at : ℕ) where
  abbrev here : List ℕ
  here = found_cells (size_of r) numbers from m

  abbrev points : List ℕ
  points = point_cells k t b m

  same : here ≡ points
  same = found_cells_lem k t b m T.size curves place_is

  -- what `store_points` leaves
  pub found_keys : (xs ks : List ℕ) → ks ≡ overlay xs at (λ i. key_of (position_in k.extents r (get_or here i 0)) b) (length here)
      → ks ≡ overlay xs at (λ i. key_of (embed k b (get_or points i 0)) b) (length points)
  found_keys xs ks e =
      e ∙ overlay_same xs at _ _ (length here) (λ i _. ap (λ (p : ℕ). key_of p b) (position_told k b r T (get_or here i 0) ∙ ap (λ (l : List ℕ). embed k b (get_or l i 0)) same))
      ∙ ap (λ (l : List ℕ). overlay xs at (λ i. key_of (embed k b (get_or points i 0)) b) (length l)) same

  pub found_rows : (xs rs : List ℕ) → rs ≡ overlay xs (6 * at) (λ i. get_or (found_row (size_of r) numbers from m (get_or here (i / 6) 0)) (i % 6) 0) (6 * length here)
      → rs ≡ overlay xs (6 * at) (λ i. get_or (final_row k t b m (get_or points (i / 6) 0)) (i % 6) 0) (6 * length points)
  found_rows xs rs e =
      e ∙ overlay_same xs (6 * at) _ _ (6 * length here)
      (λ i _. ap (λ (l : List ℕ). get_or l (i % 6) 0) (found_row_lem k t b m T.size curves place_is (get_or here (i / 6) 0) ∙ ap (λ (l : List ℕ). final_row k t b m (get_or l (i / 6) 0)) same))
      ∙ ap (λ (l : List ℕ). overlay xs (6 * at) (λ i. get_or (final_row k t b m (get_or points (i / 6) 0)) (i % 6) 0) (6 * length l)) same
