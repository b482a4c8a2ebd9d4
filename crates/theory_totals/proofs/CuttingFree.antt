-- Cutting leaves no trace in the totals: where the readings are those of one volume, no block says another.
-- Assumes nothing.
use mathlib.Core.Path.{◌≡◌, sym, ap, ap₂, ◌∙◌}
use mathlib.Core.Logic.{◌≢◌}
use mathlib.Core.Bool.{true}
use mathlib.Core.List.{List, Memᴰ}
use Prim.Native.Nat.{ℕ, ◌<◌}
use lib.Ieee.{Float}
use lib.ListN.{get_or}
use Rattle.cells.specs.Box.{volume}
use Rattle.cells.specs.Grid.{cells, order, upper_neighbours, voxel, voxel_cell}
use Rattle.cells.proofs.GridLaws.{voxel_inside, cell_voxel}
use Rattle.labels.specs.Number.{labels}
use Rattle.cutting.specs.Cutting.{Cutting, blocks, good_cut, block_extents, embed}
use Rattle.cutting.specs.Nodes.{part}
use Rattle.cutting.proofs.BlockLaws.{voxel_same}
use Rattle.joiner.proofs.Codes.{lowest_of, InLowest, in_lowest}
use Rattle.joiner.proofs.Sheets.{codes_back}
use Rattle.joiner.proofs.Statement3.{opened_passed}
use Rattle.strains.specs.declared.Reading.{Reading}
use Rattle.totals.specs.Totals.{reading_at}
use Rattle.theory_totals.specs.Book.{face_totals, reading_from}
use Rattle.theory_totals.specs.Statement.{CuttingFree}
use Rattle.theory_totals.proofs.SideReadings.{InBlock, in_block, reading_in}
use Rattle.theory_totals.proofs.TotalsRead.{face_same, totals_exact}

module _ (k : Cutting) (good : good_cut k ≡ true) (codes : List ℕ) (own : ℕ → List ℕ) (parts : (b : ℕ) → b < blocks k → own b ≡ part k codes b)
    (reading : ℕ → Reading) (values : ℕ → List Float) (kinds : ℕ → List ℕ)
    (one : (b v : ℕ) → b < blocks k → v < volume (block_extents k b) → get_or (own b) (voxel_cell (block_extents k b) v) 0 ≢ 0
    → reading_at (values b) (kinds b) v ≡ reading (voxel k.extents (embed k b (voxel_cell (block_extents k b) v)))) where
  -- the reading of a segment's voxel beside a face cell is the volume's, whichever block it is read from
  reading_one : (t : ℕ) → t < cells k.extents → order k.extents t ≡ 2 → (q : ℕ) → Memᴰ q (upper_neighbours k.extents t) → get_or (labels k.extents codes) q 0 ≢ 0
      → reading_from k values kinds t q ≡ reading (voxel k.extents q)
  reading_one t ht ot q i d =
      let b : ℕ = lowest_of k t in
      let l : InLowest k t = in_lowest k good t ht in
      let v : InBlock k t q = in_block k good t ht ot q i in
      let numbered : get_or (own b) (voxel_cell (block_extents k b) (voxel (block_extents k b) v.cell)) 0 ≡ get_or (labels k.extents codes) q 0 =
      ap₂ (λ (m : List ℕ) (x : ℕ). get_or m x 0) (parts b l.listed) (cell_voxel (block_extents k b) v.cell v.within v.level)
      ∙ voxel_same k good codes b l.listed v.cell v.within v.level
      ∙ ap (λ (x : ℕ). get_or (labels k.extents codes) x 0) v.is in
      reading_in k good t ht values kinds q v
      ∙ one b (voxel (block_extents k b) v.cell) l.listed (voxel_inside (block_extents k b) v.cell v.within) (λ z. d (sym numbered ∙ z))
      ∙ ap (λ (x : ℕ). reading (voxel k.extents (embed k b x))) (cell_voxel (block_extents k b) v.cell v.within v.level)
      ∙ ap (λ (x : ℕ). reading (voxel k.extents x)) v.is

-- "Cutting leaves no trace", in totals.
pub cutting_free : CuttingFree
cutting_free o codes reading own values kinds n T many maps one X =
    let k : Cutting = o.cutting in
    let good : good_cut k ≡ true = (opened_passed o X.lent X.opened.opened.accepted).1 in
    totals_exact o own values kinds n T X
    ∙ ap (λ (c : List ℕ). face_totals k.extents (labels k.extents c) (reading_from k values kinds) n) (codes_back k good codes own many maps)
    ∙ face_same k.extents (labels k.extents codes) (reading_from k values kinds) (λ t q. reading (voxel k.extents q)) n (reading_one k good codes own maps reading values kinds one)
