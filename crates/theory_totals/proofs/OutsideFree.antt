-- Readings of voxels outside count nowhere.
-- Assumes nothing.
use mathlib.Core.Path.{◌≡◌, sym, ap, ap₂, ◌∙◌}
use mathlib.Core.Bool.{true}
use mathlib.Core.Logic.{◌≢◌}
use mathlib.Core.List.{List, Memᴰ}
use Prim.Native.Nat.{ℕ, ◌<◌}
use lib.ListN.{get_or}
use lib.Ieee.{Float}
use Rattle.cells.specs.Box.{volume}
use Rattle.cells.specs.Grid.{cells, order, upper_neighbours, voxel, voxel_cell}
use Rattle.cells.proofs.GridLaws.{voxel_inside, cell_voxel}
use Rattle.cutting.specs.Cutting.{Cutting, blocks, good_cut, block_extents}
use Rattle.cutting.specs.Nodes.{part}
use Rattle.cutting.proofs.BlockLaws.{voxel_same}
use Rattle.joiner.specs.Stages.{codes_of}
use Rattle.joiner.proofs.Codes.{lowest_of, InLowest, in_lowest}
use Rattle.joiner.proofs.Statement3.{opened_passed}
use Rattle.totals.specs.Totals.{reading_at}
use Rattle.theory_totals.specs.Book.{reading_from}
use Rattle.theory_totals.specs.Statement.{uncut_from, OutsideFree}
use Rattle.theory_totals.proofs.SideReadings.{InBlock, in_block, reading_in}
use Rattle.theory_totals.proofs.TotalsRead.{face_same, totals_exact, parts_read}

module _ (k : Cutting) (good : good_cut k ≡ true) (own : ℕ → List ℕ) (parts : (b : ℕ) → b < blocks k → own b ≡ part k (codes_of k own) b) (values values' : ℕ → List Float) (kinds kinds' : ℕ → List ℕ)
    (inside : (b v : ℕ) → b < blocks k → v < volume (block_extents k b) → get_or (own b) (voxel_cell (block_extents k b) v) 0 ≢ 0 → reading_at (values b) (kinds b) v ≡ reading_at (values' b) (kinds' b) v) where
  -- a voxel of the volume has its number in the block that it is read from, so that its reading is the same
  reading_same : (t : ℕ) → t < cells k.extents → order k.extents t ≡ 2 → (q : ℕ) → Memᴰ q (upper_neighbours k.extents t) → get_or (uncut_from k own) q 0 ≢ 0
      → reading_from k values kinds t q ≡ reading_from k values' kinds' t q
  reading_same t ht ot q i d =
      let b : ℕ = lowest_of k t in
      let l : InLowest k t = in_lowest k good t ht in
      let v : InBlock k t q = in_block k good t ht ot q i in
      let numbered : get_or (own b) (voxel_cell (block_extents k b) (voxel (block_extents k b) v.cell)) 0 ≡ get_or (uncut_from k own) q 0 =
      ap₂ (λ (m : List ℕ) (x : ℕ). get_or m x 0) (parts b l.listed) (cell_voxel (block_extents k b) v.cell v.within v.level)
      ∙ voxel_same k good (codes_of k own) b l.listed v.cell v.within v.level
      ∙ ap (λ (x : ℕ). get_or (uncut_from k own) x 0) v.is in
      reading_in k good t ht values kinds q v
      ∙ inside b (voxel (block_extents k b) v.cell) l.listed (voxel_inside (block_extents k b) v.cell v.within) (λ z. d (sym numbered ∙ z))
      ∙ sym (reading_in k good t ht values' kinds' q v)

-- "The outside .. has zero sums and counts": totals go by the readings of the other voxels.
pub outside_free : OutsideFree
outside_free o own values values' kinds kinds' n T T' inside X Y =
    let k : Cutting = o.cutting in
    let good : good_cut k ≡ true = (opened_passed o X.lent X.opened.opened.accepted).1 in
    totals_exact o own values kinds n T X
    ∙ face_same k.extents (uncut_from k own) (reading_from k values kinds) (reading_from k values' kinds') n
    (reading_same k good own (parts_read o own values kinds n T X) values values' kinds kinds' inside)
    ∙ sym (totals_exact o own values' kinds' n T' Y)
