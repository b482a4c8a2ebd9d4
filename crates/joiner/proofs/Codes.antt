-- Accepted seams alone make all maps those of one volume.
-- Assumes nothing.
use mathlib.Core.Bool.{Bool, ◌&&◌, false, true}
use mathlib.Core.List.{List, Memᴰ}
use mathlib.Core.Path.{◌∙◌, ◌≡◌, ap, refl, subst, sym}
use Prim.Native.Nat.{◌*◌, ◌+◌, ◌<◌, ◌≤◌, ℕ}
use native.Mathlib.Omega.{arith}
use lib.Dec.{leb, ltb}
use lib.ListN.{get_or}
use borrow.Author.Tests.{eq-eqb, eqb-true, le-leb, leb-true, lt-ltb, ltb-true, not-false}
use borrow.Fn.PlainCycle.{is}
use Rattle.lists.specs.Lists.{consecutive, keep, some_of, tabulate}
use Rattle.closure.specs.Joined.{edge}
use Rattle.cells.specs.Box.{coord, index, place, volume}
use Rattle.cells.specs.declared.Axis.{Axis}
use Rattle.cells.specs.declared.Axis.TheVariants.{X, Y, Z}
use Rattle.cells.specs.declared.Triple.{Triple}
use Rattle.cells.specs.Grid.{cells, order, sides, voxel, voxel_cell}
use Rattle.labels.specs.Numbering.{Numbering}
use Rattle.cutting.specs.Cutting.{Cutting, block_codes, block_extents, blocks, cuts, embed, good_cut, interval, origin, seam}
use Rattle.cutting.specs.Nodes.{BlockHas, SeamPath, part}
use Rattle.joiner.specs.Calls.{differs}
use Rattle.joiner.specs.Stages.{code_in, codes_of, has_cell, has_on, local, lowest_block, shared}
use Rattle.joiner.specs.Statement.{Labelling}
use Rattle.lists.proofs.Cases.{and_both, and_first, and_second}
use Rattle.lists.proofs.Lists.{consecutive_in, consecutive_out, get_or_tabulate, keep_in, keep_out, map_same}
use Rattle.lists.proofs.Table.{at}
use Rattle.lists.proofs.Tests.{first_in_lem, some_none}
use Rattle.cells.proofs.BoxLaws.{Inside, index_inside, index_place, place_index, same_triple}
use Rattle.cells.proofs.GridLaws.{cell_voxel, side_on, voxel_cell_inside, voxel_inside}
use Rattle.labels.proofs.LabelLaws.{labels_numbering, numbering_unique}
use Rattle.cutting.proofs.BlockLaws.{block_code}
use Rattle.cutting.proofs.CutLaws.{InBlock, Spans, blocks_cover, embed_inside, embed_order, embed_same, extent_on, has_spans, its_interval, origin_on, local_in_block}
use Rattle.cutting.proofs.SeamLaws.{seam_path}
use Rattle.joiner.proofs.Shared.{Shares, shared_in}

-- ---- the block that has a cell

module _ (k : Cutting) (good : good_cut k ≡ true) (b : ℕ) (hb : b < blocks k) where
  has_on_lem : (c : Triple) → has_cell k b c ≡ true → (a : Axis) → has_on k b c a ≡ true
  unfolding has_cell
  has_on_lem c t X = and_first (has_on k b c X) (has_on k b c Y && has_on k b c Z) t
  has_on_lem c t Y = and_first (has_on k b c Y) (has_on k b c Z) (and_second (has_on k b c X) (has_on k b c Y && has_on k b c Z) t)
  has_on_lem c t Z = and_second (has_on k b c Y) (has_on k b c Z) (and_second (has_on k b c X) (has_on k b c Y && has_on k b c Z) t)

  has_low : (c : Triple) → has_cell k b c ≡ true → (a : Axis) → 2 * coord (origin k b) a ≤ coord c a
  unfolding has_on
  has_low c t a = leb-true _ _ (and_first (leb (2 * coord (origin k b) a) (coord c a)) (ltb (coord c a) (2 * coord (origin k b) a + coord (sides (block_extents k b)) a)) (has_on_lem c t a))

  has_high : (c : Triple) → has_cell k b c ≡ true → (a : Axis) → coord c a < 2 * coord (origin k b) a + coord (sides (block_extents k b)) a
  unfolding has_on
  has_high c t a = ltb-true _ _ (and_second (leb (2 * coord (origin k b) a) (coord c a)) (ltb (coord c a) (2 * coord (origin k b) a + coord (sides (block_extents k b)) a)) (has_on_lem c t a))

  -- a cell that a block has stands in it at `local`
  pub cell_in_block : (c : Triple) → has_cell k b c ≡ true → (local k b c < cells (block_extents k b)) × (embed k b (local k b c) ≡ index (sides k.extents) c)
  unfolding local
  cell_in_block c t = local_in_block k good b hb c (has_low c t) (has_high c t)

  pub block_has_cell : (t : ℕ) → BlockHas k b t → has_cell k b (place (sides k.extents) t) ≡ true
  unfolding has_cell has_on
  block_has_cell t h = and_both (on X) (on Y && on Z) (on_true X) (and_both (on Y) (on Z) (on_true Y) (on_true Z))
    where
      on : Axis → Bool
      on a = has_on k b (place (sides k.extents) t) a

      on_true : (a : Axis) → on a ≡ true
      on_true a =
          let s : Spans (cuts k a) (interval k b a) (coord (place (sides k.extents) t) a) = has_spans k good b hb t h a in
          let x : ℕ = coord (place (sides k.extents) t) a in
          let l : ℕ = 2 * coord (origin k b) a in
          let h' : ℕ = 2 * coord (origin k b) a + coord (sides (block_extents k b)) a in
          and_both (leb l x) (ltb x h') (le-leb l x (omega (arith, s.above, origin_on k b a)))
          (lt-ltb x h' (omega (arith, s.below, origin_on k b a, extent_on k b a, side_on (block_extents k b) a, (its_interval k good b hb a).upward)))

-- the lowest block that has a cell of the volume
pub lowest_has : (k : Cutting) → good_cut k ≡ true → (t : ℕ) → t < cells k.extents
    → (lowest_block k (place (sides k.extents) t) < blocks k) × (has_cell k (lowest_block k (place (sides k.extents) t)) (place (sides k.extents) t) ≡ true)
unfolding lowest_block
lowest_has k good t ht =
    let c : Triple = place (sides k.extents) t in
    let w : InBlock k t = blocks_cover k good t ht in
    let m : Memᴰ w.b (keep (λ b. has_cell k b c) (consecutive 0 (blocks k))) =
    keep_in (λ b. has_cell k b c) (consecutive 0 (blocks k)) (consecutive_in 0 (blocks k) (omega arith) (omega (arith, w.listed))) (block_has_cell k good w.b w.listed t w.has) in
    let r = keep_out (λ b. has_cell k b c) (consecutive 0 (blocks k)) (first_in_lem (keep (λ b. has_cell k b c) (consecutive 0 (blocks k))) m) in
    (omega (arith, consecutive_out 0 (blocks k) r.0), r.1)

-- .. of a cell by its place.
pub lowest_there : (k : Cutting) → good_cut k ≡ true → (c : Triple) → Inside (sides k.extents) c → (lowest_block k c < blocks k) × (has_cell k (lowest_block k c) c ≡ true)
unfolding cells
lowest_there k good c i =
    let back : place (sides k.extents) (index (sides k.extents) c) ≡ c = same_triple _ _ (place_index (sides k.extents) c (i X) (i Y)) in
    subst (λ (d : Triple). (lowest_block k d < blocks k) × (has_cell k (lowest_block k d) d ≡ true)) back (lowest_has k good (index (sides k.extents) c) (index_inside (sides k.extents) c i))

-- The lowest block that has a cell of the volume, and where the cell stands in it.
abbrev pub lowest_of : Cutting → ℕ → ℕ
lowest_of k t = lowest_block k (place (sides k.extents) t)

abbrev pub local_of : Cutting → ℕ → ℕ
local_of k t = local k (lowest_of k t) (place (sides k.extents) t)

pub record InLowest (k : Cutting) (t : ℕ) : Type 0 where
  pub listed : lowest_of k t < blocks k
  pub has : has_cell k (lowest_of k t) (place (sides k.extents) t) ≡ true
  pub within : local_of k t < cells (block_extents k (lowest_of k t))
  pub is : embed k (lowest_of k t) (local_of k t) ≡ t
  pub level : order (block_extents k (lowest_of k t)) (local_of k t) ≡ order k.extents t

pub in_lowest : (k : Cutting) → good_cut k ≡ true → (t : ℕ) → t < cells k.extents → InLowest k t
in_lowest k good t ht =
    let b : ℕ = lowest_of k t in
    let w = lowest_has k good t ht in
    let h = cell_in_block k good b w.0 (place (sides k.extents) t) w.1 in
    let is : embed k b (local_of k t) ≡ t = h.1 ∙ index_place (sides k.extents) t in
    record { listed = w.0; has = w.1; within = h.0; is = is; level = sym (embed_order k good b w.0 (local_of k t) h.0) ∙ ap (order k.extents) is }

pub lowest_has_cell : (k : Cutting) → good_cut k ≡ true → (t : ℕ) → t < cells k.extents → (lowest_of k t < blocks k) × BlockHas k (lowest_of k t) t
lowest_has_cell k good t ht =
    let l = in_lowest k good t ht in
    (l.listed, record { p = local_of k t; within = l.within; is = l.is })

-- the code of a voxel of the volume, out of the maps
pub code_of : (k : Cutting) (maps : ℕ → List ℕ) (t : ℕ) → t < cells k.extents → order k.extents t ≡ 3
    → get_or (codes_of k maps) (voxel k.extents t) 0 ≡ code_in k maps (place (sides k.extents) t)
unfolding codes_of
code_of k maps t ht o =
    get_or_tabulate (volume k.extents) (λ v. code_in k maps (place (sides k.extents) (voxel_cell k.extents v))) (voxel k.extents t) (voxel_inside k.extents t ht)
    ∙ ap (λ (x : ℕ). code_in k maps (place (sides k.extents) x)) (cell_voxel k.extents t ht o)

-- maps that are equal on all blocks have equal codes
pub codes_same : (k : Cutting) → good_cut k ≡ true → (f g : ℕ → List ℕ) → ((b : ℕ) → b < blocks k → f b ≡ g b) → codes_of k f ≡ codes_of k g
unfolding codes_of code_in tabulate
codes_same k good f g h =
    map_same _ _ (consecutive 0 (volume k.extents))
    (λ v m.
    let t : ℕ = voxel_cell k.extents v in
    let c : Triple = place (sides k.extents) t in
    let w = lowest_has_cell k good t (voxel_cell_inside k.extents v (omega (arith, consecutive_out 0 (volume k.extents) m))) in
    ap (λ (l : List ℕ). get_or l (local k (lowest_block k c) c) 0) (h (lowest_block k c) w.0))

-- ---- agreement

module _ (k : Cutting) (good : good_cut k ≡ true) (own : ℕ → List ℕ)
    (agree : (b c : ℕ) → seam k b c ≡ true → some_of (differs (block_extents k b) (own b) (own c)) (shared k b c) ≡ false) where
  seam_voxel : (b c p q : ℕ) → seam k b c ≡ true → Shares k b c p q → order (block_extents k b) p ≡ 3 → get_or (own b) p 0 ≡ get_or (own c) q 0
  unfolding differs
  seam_voxel b c p q z r o =
      let d : differs (block_extents k b) (own b) (own c) (edge p q) ≡ false = some_none (differs (block_extents k b) (own b) (own c)) (shared k b c) (agree b c z) (shared_in k b c p q r) in
      eqb-true _ _ (not-false _ (rw (eq-eqb (order (block_extents k b) p) 3 o) at d))

  path_voxel : {t b d : ℕ} → SeamPath k t b d → b < blocks k → order k.extents t ≡ 3 → (h : BlockHas k b t) (g : BlockHas k d t) → get_or (own b) h.p 0 ≡ get_or (own d) g.p 0
  path_voxel (SeamPath.stay {b = b}) hb o h g = ap (λ (x : ℕ). get_or (own b) x 0) (embed_same k good b hb h.p g.p h.within g.within (h.is ∙ sym g.is))
  path_voxel (SeamPath.next {b = b} {c = c} hc z m l) hb o h g =
      seam_voxel b c h.p m.p z (record { p_in = h.within; q_in = m.within; one_cell = h.is ∙ sym m.is }) (sym (embed_order k good b hb h.p h.within) ∙ ap (order k.extents) h.is ∙ o)
      ∙ path_voxel l hc o m g
  path_voxel (SeamPath.last {b = b} {c = c} hc z m l) hb o h g =
      sym (seam_voxel c b m.p h.p z (record { p_in = m.within; q_in = h.within; one_cell = m.is ∙ sym h.is }) (sym (embed_order k good c hc m.p m.within) ∙ ap (order k.extents) m.is ∙ o))
      ∙ path_voxel l hc o m g

  -- the code of a voxel in any block is that of the volume
  code_at : (b p : ℕ) → b < blocks k → p < cells (block_extents k b) → order (block_extents k b) p ≡ 3 → get_or (own b) p 0 ≡ get_or (codes_of k own) (voxel k.extents (embed k b p)) 0
  unfolding code_in
  code_at b p hb hp o =
      let t : ℕ = embed k b p in
      let ht : t < cells k.extents = embed_inside k good b hb p hp in
      let ot : order k.extents t ≡ 3 = embed_order k good b hb p hp ∙ o in
      let l = in_lowest k good t ht in
      let g : BlockHas k (lowest_of k t) t = record { p = local_of k t; within = l.within; is = l.is } in
      let me : BlockHas k b t = record { p = p; within = hp; is = refl } in
      path_voxel (seam_path k good t b (lowest_of k t) hb l.listed me g) hb ot me g ∙ sym (code_of k own t ht ot)

  -- so each map is that of its block of the volume
  pub own_part : (b : ℕ) → b < blocks k → Labelling (block_extents k b) (own b) → own b ≡ part k (codes_of k own) b
  own_part b hb l =
      numbering_unique (block_extents k b) (block_codes k b (codes_of k own)) (own b) (part k (codes_of k own) b)
      (record {
        whole = n.whole;
        voxels = λ p hp o. code_at b p hb hp o ∙ sym (block_code k good b hb p hp (codes_of k own));
        inactive = n.inactive;
        shared = n.shared;
        positive = n.positive;
        earlier = n.earlier;
      })
      (labels_numbering (block_extents k b) (block_codes k b (codes_of k own)))
    where
      n : Numbering (block_extents k b) l.codes (own b)
      n = subst (Numbering (block_extents k b) l.codes) (sym l.left) (labels_numbering (block_extents k b) l.codes)
