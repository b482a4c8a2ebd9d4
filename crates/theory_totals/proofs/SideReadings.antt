-- The readings that the blocks take for a side of a face are those of the voxels on that side of the uncut face.
-- Assumes nothing.
use mathlib.Core.Path.{◌≡◌, refl, sym, ap, ap₂, ◌∙◌, subst}
use mathlib.Core.Bool.{Bool, true, false, cond}
use mathlib.Core.Logic.{◌≢◌}
use mathlib.Core.List.Memᴰ
use mathlib.Core.List.{List, [], ◌∷◌, ◌++◌, map, map-map, Memᴰ}
use Prim.Native.Nat.{ℕ, suc, ◌≤◌, ◌<◌}
use native.Mathlib.Omega.{arith}
use lib.Dec.{eqb}
use lib.ListN.{get_or}
use lib.Ieee.{Float}
use borrow.Author.Tests.{eqb-true, eqb-false, ne_eqb}
use Rattle.lists.specs.Lists.{keep}
use Rattle.lists.proofs.Cases.{by_test}
use Rattle.lists.proofs.Lists.{keep_out}
use Rattle.lists.proofs.Tests.{keep_same}
use Rattle.cells.specs.Box.{index, place}
use Rattle.cells.specs.declared.Triple.{Triple}
use Rattle.cells.specs.Extents.{off_size}
use Rattle.cells.specs.Grid.{sides, cells, order, upper_neighbours, voxel}
use Rattle.cells.specs.Row.{row}
use Rattle.cells.proofs.BoxLaws.{index_place}
use Rattle.cells.proofs.GridLaws.{Upper, upper_neighbour}
use Rattle.labels.specs.Components.{of_order, component}
use Rattle.labels.proofs.ComponentLaws.{of_order_out}
use Rattle.cutting.specs.Cutting.{Cutting, blocks, good_cut, block_extents, embed}
use Rattle.cutting.specs.Nodes.{part, uncut_map}
use Rattle.cutting.proofs.RenameLaws.{keep_map}
use Rattle.cutting.proofs.BlockLaws.{voxel_same, face_row}
use Rattle.cutting.proofs.CutLaws.{embed_up}
use Rattle.joiner.specs.Book.{Book, uncut}
use Rattle.joiner.specs.Declines.{final_of}
use Rattle.joiner.specs.Job.{Closed, Face, Point, State, Tables, Told, stage_number}
use Rattle.joiner.specs.Outcomes.{cell_number, looked_up}
use Rattle.joiner.specs.Stages.{codes_of, local, lowest_block}
use Rattle.joiner.specs.Statement.{Labelling}
use Rattle.joiner.proofs.Codes.{lowest_of, local_of, InLowest, in_lowest}
use Rattle.joiner.proofs.Final.{part_is, uncut_is}
use Rattle.joiner.proofs.Readings.{cell_read}
use Rattle.joiner.proofs.Simulation.{Sim, finals_at}
use Rattle.pass_point.specs.FoundPoints.{final_in}
use Rattle.strains.specs.declared.Reading.{Reading}
use Rattle.totals.specs.Totals.{slot_of, reading_at, readings_for}
use Rattle.lowest.specs.Lowest.{own_cell, starts, starts_by}
use Rattle.lowest.proofs.LowestLaws.{own_lowest}
use Rattle.strain_calls.specs.Adding.{gathered, face_taken}
use Rattle.theory_totals.specs.Book.{on_side, side_readings, reading_from}
use Rattle.pass_strain.specs.BlockReadings.{Brought, face_at, own_face}
use Rattle.pass_strain.proofs.AddingLaws.{final_is}
use Rattle.theory_totals.specs.Volume.{taken_at, volume_taken, brought_to}
use Rattle.theory_totals.proofs.OwnCells.{embed_local, lowest_true}
use Rattle.theory_totals.proofs.SideLaws.{is_on, for_split, for_none, own_side, other_side, cell_zero, cell_other}

-- a voxel on a side of a cell is one of the cells
beside : (e : Triple) (m : List ℕ) (side p q : ℕ) → p < cells e → Memᴰ q (on_side e m side p) → q < cells e
unfolding on_side
beside e m side p q hp i = (upper_neighbour e p hp (keep_out _ (upper_neighbours e p) i).0).within

-- ---- the block's cell in the volume

-- readings that are the same at each entry of a list
pub map-alike : (f g : ℕ → Reading) (l : List ℕ) → ((q : ℕ) → Memᴰ q l → f q ≡ g q) → map f l ≡ map g l
map-alike f g [] h = refl
map-alike f g (q ∷ l) h = ap₂ (λ (x : Reading) (r : List Reading). x ∷ r) (h q (Memᴰ.head refl)) (map-alike f g l (λ q m. h q (Memᴰ.tail m)))

module _ (k : Cutting) (good : good_cut k ≡ true) (codes : List ℕ) (b : ℕ) (hb : b < blocks k) (p : ℕ) (hp : p < cells (block_extents k b)) (cell-level : order (block_extents k b) p ≡ 2) (side : ℕ) where
  -- the voxels on a side of a block's face cell are those on that side of it in the volume
  on_side_embed : on_side k.extents (uncut_map k codes) side (embed k b p) ≡ map (embed k b) (on_side (block_extents k b) (part k codes b) side p)
  unfolding on_side
  on_side_embed =
      ap₂ (λ (r l : List ℕ). keep (λ q. is_on (get_or r side 0) (get_or (uncut_map k codes) q 0)) l) (sym (face_row k good codes b hb p hp cell-level)) (sym (embed_up k good b hb p hp))
      ∙ keep_map (λ q. is_on (get_or (row (block_extents k b) (part k codes b) p) side 0) (get_or (uncut_map k codes) q 0)) (embed k b) (upper_neighbours (block_extents k b) p)
      ∙ ap (map (embed k b))
      (keep_same _ _ (upper_neighbours (block_extents k b) p)
      (λ q i.
      let w : Upper (block_extents k b) p q = upper_neighbour (block_extents k b) p hp i in
      ap (is_on (get_or (row (block_extents k b) (part k codes b) p) side 0)) (sym (voxel_same k good codes b hb q w.within (w.higher ∙ ap suc cell-level)))))

-- Voxel cell q beside face cell t of the volume, as a voxel cell of the lowest block that has t.
pub record InBlock (k : Cutting) (t q : ℕ) : Type 0 where
  pub cell : ℕ
  pub within : cell < cells (block_extents k (lowest_of k t))
  pub level : order (block_extents k (lowest_of k t)) cell ≡ 3
  pub is : embed k (lowest_of k t) cell ≡ q

module _ (k : Cutting) (good : good_cut k ≡ true) (t : ℕ) (ht : t < cells k.extents) where
  pub in_block : order k.extents t ≡ 2 → (q : ℕ) → Memᴰ q (upper_neighbours k.extents t) → InBlock k t q
  in_block ot q i =
      let b : ℕ = lowest_of k t in
      let p : ℕ = local_of k t in
      let l : InLowest k t = in_lowest k good t ht in
      let up = embed_up k good b l.listed p l.within ∙ ap (upper_neighbours k.extents) l.is in
      let f = Memᴰ.of_map (embed k b) (upper_neighbours (block_extents k b) p) (subst (Memᴰ q) (sym up) i) in
      let u : Upper (block_extents k b) p f.0 = upper_neighbour (block_extents k b) p l.within f.1 in
      record { cell = f.0; within = u.within; level = u.higher ∙ ap suc (l.level ∙ ot); is = f.2 }

  -- its reading is the one that the block brings there
  pub reading_in : (values : ℕ → List Float) (kinds : ℕ → List ℕ) (q : ℕ) (v : InBlock k t q)
      → reading_from k values kinds t q ≡ reading_at (values (lowest_of k t)) (kinds (lowest_of k t)) (voxel (block_extents k (lowest_of k t)) v.cell)
  unfolding reading_from
  reading_in values kinds q v =
      let b : ℕ = lowest_of k t in
      let here = ap (λ (x : ℕ). local k b (place (sides k.extents) x)) (sym v.is) ∙ embed_local k good b (in_lowest k good t ht).listed v.cell v.within in
      ap (λ (x : ℕ). reading_at (values b) (kinds b) (voxel (block_extents k b) x)) here

-- ---- a closed job

number_face : (k : Cutting) (t : Tables) (points b : ℕ) (m : List ℕ) (c : Triple) (p : ℕ) → order (block_extents k b) p ≡ 2 → cell_number k t points b m c p ≡ final_of t Face b (get_or m p 0)
unfolding cell_number
number_face k t points b m c p o = rw o refl

own_starts : (k : Cutting) (b p : ℕ) → own_cell k b p ≡ true → starts_by (starts k b) (place (sides (block_extents k b)) p) ≡ true
unfolding own_cell
own_starts k b p t = t

own_face_lem : (e s : Triple) (g : Brought) (p : ℕ) → starts_by s (place (sides e) p) ≡ true → own_face e s g p ≡ final_in g.numbers g.from (get_or g.numbered p 0)
unfolding own_face face_at
own_face_lem e s g p t = rw t

module _ (o : Told) (own : ℕ → List ℕ) (ext : off_size 1024 o.cutting.extents ≡ false) (good : good_cut o.cutting ≡ true)
    (lab : (b : ℕ) → b < blocks o.cutting → Labelling (block_extents o.cutting b) (own b)) (B : Book) (s : State) (S : Sim o own ext good lab B s) (at_closed : stage_number B.stage ≡ stage_number Closed)
    (values : ℕ → List Float) (kinds : ℕ → List ℕ) (n side : ℕ) (hn : 0 < n) (hs : side ≤ 1) where
  abbrev k : Cutting
  k = o.cutting

  abbrev g : ℕ → Brought
  g = brought_to s.tables own values kinds

  abbrev handed_codes : List ℕ
  handed_codes = codes_of o.cutting own

  abbrev cell_readings : ℕ → List Reading
  cell_readings t = map (reading_from k values kinds t) (on_side k.extents (uncut B) side t)

  module _ (t : ℕ) (ht : t < cells k.extents) (ot : order k.extents t ≡ 2) where
    abbrev b : ℕ
    b = lowest_of k t

    abbrev p : ℕ
    p = local_of k t

    abbrev l : InLowest k t
    l = in_lowest k good t ht

    -- the readings of the lowest block's voxels beside the cell are those of the volume's
    lifted : map (λ q. reading_at (values b) (kinds b) (voxel (block_extents k b) q)) (on_side (block_extents k b) (own b) side p) ≡ cell_readings t
    unfolding reading_from
    lifted =
        map-alike (λ q. reading_at (values b) (kinds b) (voxel (block_extents k b) q)) (λ q. reading_from k values kinds t (embed k b q)) (on_side (block_extents k b) (own b) side p)
        (λ q i. ap (λ (x : ℕ). reading_at (values b) (kinds b) (voxel (block_extents k b) x)) (sym (embed_local k good b l.listed q (beside (block_extents k b) (own b) side p q l.within i))))
        ∙ sym (map-map (reading_from k values kinds t) (embed k b) (on_side (block_extents k b) (own b) side p))
        ∙ ap (λ (m : List ℕ). map (reading_from k values kinds t) (map (embed k b) (on_side (block_extents k b) m side p))) (part_is o own good lab B s S.inv (omega (arith, at_closed)) b l.listed)
        ∙ ap (map (reading_from k values kinds t)) (sym (on_side_embed k good handed_codes b l.listed p l.within (l.level ∙ ot) side))
        ∙ ap₂ (λ (m : List ℕ) (x : ℕ). map (reading_from k values kinds t) (on_side k.extents m side x)) (sym (uncut_is o own good lab B s S.inv (omega (arith, at_closed)))) l.is

    -- the block shows there the face that the uncut map has
    shows : own_face (block_extents k b) (starts k b) (g b) p ≡ get_or (uncut B) t 0
    unfolding looked_up
    shows =
        let c : Triple = place (sides k.extents) t in
        let owned : own_cell k b p ≡ true = own_lowest k good b l.listed p l.within ∙ lowest_true k b p (ap (λ (x : ℕ). lowest_block k (place (sides k.extents) x)) l.is) in
        own_face_lem (block_extents k b) (starts k b) (g b) p (own_starts k b p owned)
        ∙ final_is s.tables b (get_or (own b) p 0)
        ∙ sym (number_face k s.tables (s.job.numbered Point) b (own b) c p (l.level ∙ ot))
        ∙ sym (ap (λ (z : Told). cell_number z.cutting s.tables (s.job.numbered Point) b (own b) c (local z.cutting b c)) S.inv.told)
        ∙ cell_read o own good lab B s S.inv (omega (arith, at_closed)) (finals_at o own ext good lab B s S at_closed) b c l.listed l.has
        ∙ ap (λ (z : Told). get_or (uncut B) (index (sides z.cutting.extents) c) 0) S.inv.btold
        ∙ ap (λ (x : ℕ). get_or (uncut B) x 0) (index_place (sides k.extents) t)

    -- what is taken at the cell for a side of face n
    at_cell : readings_for (slot_of n side) (taken_at k g t) ≡ cond (eqb (get_or (uncut B) t 0) n) (cell_readings t) []
    unfolding taken_at
    at_cell =
        let N : ℕ = get_or (uncut B) t 0 in
        by_test (eqb N 0)
        (λ z.
        let y : N ≡ 0 = eqb-true N 0 z in
        ap (readings_for (slot_of n side)) (cell_zero (block_extents k b) (starts k b) (g b) p (shows ∙ y))
        ∙ for_none (slot_of n side)
        ∙ sym (ap (λ (a : Bool). cond a (cell_readings t) []) (ne_eqb N n (λ d. omega arith))))
        (λ z.
        let y : N ≢ 0 = eqb-false N 0 z in
        ap (readings_for (slot_of n side)) (cell_other (block_extents k b) (starts k b) (g b) p N shows y)
        ∙ by_test (eqb N n)
        (λ a.
        let d : N ≡ n = eqb-true N n a in
        ap (λ (x : ℕ). readings_for (slot_of n side) (face_taken (block_extents k b) (own b) (values b) (kinds b) x p)) d
        ∙ own_side (block_extents k b) (own b) (values b) (kinds b) n p side hs
        ∙ lifted
        ∙ sym (ap (λ (x : Bool). cond x (cell_readings t) []) a))
        (λ a.
        other_side (block_extents k b) (own b) (values b) (kinds b) N p side hs n (omega arith) hn (eqb-false N n a)
        ∙ sym (ap (λ (x : Bool). cond x (cell_readings t) []) a)))

  over_cells : (ts : List ℕ) → ((t : ℕ) → Memᴰ t ts → (t < cells k.extents) × (order k.extents t ≡ 2)) → readings_for (slot_of n side) (gathered (taken_at k g) ts) ≡ gathered cell_readings (keep (λ t. eqb (get_or (uncut B) t 0) n) ts)
  unfolding gathered
  over_cells [] f = for_none (slot_of n side)
  over_cells (t ∷ ts) f =
      let i = f t (Memᴰ.head refl) in
      for_split (slot_of n side) (taken_at k g t) (gathered (taken_at k g) ts)
      ∙ ap₂ (λ (a b : List Reading). a ++ b) (at_cell t i.0 i.1) (over_cells ts (λ q m. f q (Memᴰ.tail m)))
      ∙ by_test (eqb (get_or (uncut B) t 0) n) (λ z. rw z refl) (λ z. rw z refl)

  -- The readings that all blocks take for a side of face n are those on that side of the uncut face, cell by cell.
  pub side_readings_lem : readings_for (slot_of n side) (volume_taken k g) ≡ side_readings k.extents (uncut B) (reading_from k values kinds) n side
  unfolding volume_taken side_readings component
  side_readings_lem = over_cells (of_order k.extents 2) (λ t m. of_order_out k.extents 2 m)
