-- What the numbering of a block says of the volume that it is cut from.
-- Assumes nothing.
use mathlib.Core.Path.{◌≡◌, refl, sym, ap, ◌∙◌, subst}
use mathlib.Core.Bool.{true, cond}
use mathlib.Core.Logic.{◌≢◌}
use mathlib.Core.List.Memᴰ
use mathlib.Core.List.{List, map, map-map, Memᴰ}
use lib.Dec.{eqb}
use borrow.Author.Tests.{eqb-true, eqb-false}
use Prim.Native.Nat.{ℕ, zero, suc, ◌+◌, ◌/◌, ◌≤◌, ◌<◌}
use native.Mathlib.Omega.{arith}
use lib.ListN.{get_or, length, length-map}
use Rattle.cells.specs.Box.{coord, each, volume, index, place}
use Rattle.cells.specs.declared.Axis.{Axis}
use Rattle.cells.specs.declared.Axis.TheVariants.{X, Y}
use Rattle.cells.specs.declared.Triple.{Triple}
use Rattle.cells.specs.Grid.{sides, cells, order, upper_neighbours, voxel}
use Rattle.cells.specs.Row.{row_of, occupied, row, active}
use Rattle.labels.specs.Components.{first_cell}
use Rattle.labels.specs.Numbering.{Meet, Joined, here, step}
use Rattle.cutting.specs.Cutting.{Cutting, good_cut, blocks, origin, block_extents, block_codes, embed}
use Rattle.lists.proofs.Cases.{by_test, picked}
use Rattle.cells.proofs.BoxLaws.{Inside, place_index, index_inside, coord_each, same_triple}
use Rattle.cells.proofs.GridLaws.{Upper, upper_neighbour, side_on, inside, length_up}
use Rattle.lists.proofs.Lists.{get_or_tabulate, map_same}
use Rattle.labels.proofs.ComponentLaws.{Belongs, belongs_at}
use Rattle.cutting.proofs.RenameLaws.{Tells, row_renamed, occupied_renamed}
use Rattle.labels.proofs.LabelLaws.{labels_numbering, shared_row, numbered_active}
use Rattle.cutting.proofs.CutLaws.{shift_into, shift_on, shift_inside, embed_inside, embed_order, embed_up, InBlock, blocks_cover}
use Rattle.cutting.specs.Nodes.{uncut_map, part}

each_same : (f g : Axis → ℕ) → ((a : Axis) → f a ≡ g a) → each f ≡ each g
each_same f g h = same_triple (each f) (each g) (λ a. coord_each f a ∙ h a ∙ sym (coord_each g a))

module _ (k : Cutting) (good : good_cut k ≡ true) (b : ℕ) (hb : b < blocks k) (p : ℕ) (hp : p < cells (block_extents k b)) where
  -- the voxel of a cell in the volume, from its place in the block
  voxel_embed : voxel k.extents (embed k b p) ≡ index k.extents (each (λ a. coord (origin k b) a + coord (place (sides (block_extents k b)) p) a / 2))
  unfolding voxel embed shift_into
  voxel_embed =
      let c : Triple = place (sides (block_extents k b)) p in
      let i : Inside (sides k.extents) (shift_into k b c) = shift_inside k good b hb c (inside (block_extents k b) p hp) in
      ap (index k.extents) (each_same (λ a. coord (place (sides k.extents) (index (sides k.extents) (shift_into k b c))) a / 2) (λ a. coord (origin k b) a + coord c a / 2) (λ a. ap (λ (n : ℕ). n / 2) (place_index (sides k.extents) (shift_into k b c) (i X) (i Y) a ∙ shift_on k b c a) ∙ omega arith))

  halves_in : Inside (block_extents k b) (each (λ a. coord (place (sides (block_extents k b)) p) a / 2))
  halves_in a = rw (coord_each (λ a'. coord (place (sides (block_extents k b)) p) a' / 2) a) (omega (arith, side_on (block_extents k b) a, inside (block_extents k b) p hp a))

  pub block_code : (codes : List ℕ) → get_or (block_codes k b codes) (voxel (block_extents k b) p) 0 ≡ get_or codes (voxel k.extents (embed k b p)) 0
  unfolding block_codes voxel
  block_code codes =
      let e : Triple = block_extents k b in
      let h : Triple = each (λ a. coord (place (sides e) p) a / 2) in
      let f : ℕ → ℕ = λ v. get_or codes (index k.extents (each (λ a. coord (origin k b) a + coord (place e v) a))) 0 in
      get_or_tabulate (volume e) f (index e h) (index_inside e h halves_in)
      ∙ ap (λ (t : Triple). get_or codes (index k.extents t) 0)
      (each_same _ _ (λ a. ap (λ (n : ℕ). coord (origin k b) a + n) (place_index e h (halves_in X) (halves_in Y) a ∙ coord_each (λ a'. coord (place (sides e) p) a' / 2) a)))
      ∙ ap (λ (n : ℕ). get_or codes n 0) (sym voxel_embed)

-- cells p and q of one block, seen in the volume
pub record MeetIn (k : Cutting) (p q : ℕ) : Type 0 where
  pub b : ℕ
  pub listed : b < blocks k
  pub one : ℕ
  pub two : ℕ
  pub meet : Meet (block_extents k b) one two
  pub one_is : embed k b one ≡ p
  pub two_is : embed k b two ≡ q

module _ (k : Cutting) (good : good_cut k ≡ true) where
  -- cells that meet in a block meet in the volume, and cells that meet in the volume meet in a block
  pub meet_embed : (b : ℕ) → b < blocks k → {p q : ℕ} → Meet (block_extents k b) p q → Meet k.extents (embed k b p) (embed k b q)
  meet_embed b hb r =
      record {
        at = embed k b r.at;
        inside = embed_inside k good b hb r.at r.inside;
        one = subst (Memᴰ _) (embed_up k good b hb r.at r.inside) (Memᴰ.map (embed k b) r.one);
        two = subst (Memᴰ _) (embed_up k good b hb r.at r.inside) (Memᴰ.map (embed k b) r.two);
      }

  pub meet_in : {p q : ℕ} → Meet k.extents p q → MeetIn k p q
  meet_in {p} {q} r =
      let w : InBlock k r.at = blocks_cover k good r.at r.inside in
      let u : map (embed k w.b) (upper_neighbours (block_extents k w.b) w.has.p) ≡ upper_neighbours k.extents r.at =
      embed_up k good w.b w.listed w.has.p w.has.within ∙ ap (upper_neighbours k.extents) w.has.is in
      let x = Memᴰ.of_map (embed k w.b) (upper_neighbours (block_extents k w.b) w.has.p) (subst (Memᴰ p) (sym u) r.one) in
      let y = Memᴰ.of_map (embed k w.b) (upper_neighbours (block_extents k w.b) w.has.p) (subst (Memᴰ q) (sym u) r.two) in
      record { b = w.b; listed = w.listed; one = x.0; two = y.0; meet = record { at = w.has.p; inside = w.has.within; one = x.1; two = y.1 }; one_is = x.2; two_is = y.2 }

  -- a row is kept where the upper neighbours' numbers are
  pub row_embed : (b : ℕ) → b < blocks k → (m M : List ℕ) (p : ℕ) → p < cells (block_extents k b)
      → ((q : ℕ) → Memᴰ q (upper_neighbours (block_extents k b) p) → get_or m q 0 ≡ get_or M (embed k b q) 0) → row (block_extents k b) m p ≡ row k.extents M (embed k b p)
  unfolding row
  row_embed b hb m M p hp h =
      ap row_of
      (map_same (λ q. get_or m q 0) (λ q. get_or M (embed k b q) 0) (upper_neighbours (block_extents k b) p) h
      ∙ sym (map-map (λ q. get_or M q 0) (embed k b) (upper_neighbours (block_extents k b) p))
      ∙ ap (map (λ q. get_or M q 0)) (embed_up k good b hb p hp))

  module _ (codes : List ℕ) where
    pub voxel_same : (b : ℕ) → b < blocks k → (p : ℕ) → p < cells (block_extents k b) → order (block_extents k b) p ≡ 3 → get_or (part k codes b) p 0 ≡ get_or (uncut_map k codes) (embed k b p) 0
    voxel_same b hb p hp o =
        (labels_numbering (block_extents k b) (block_codes k b codes)).voxels p hp o
        ∙ block_code k good b hb p hp codes
        ∙ sym ((labels_numbering k.extents codes).voxels (embed k b p) (embed_inside k good b hb p hp) (embed_order k good b hb p hp ∙ o))

    -- a face cell has one row in the block and in the volume
    pub face_row : (b : ℕ) → b < blocks k → (p : ℕ) → p < cells (block_extents k b) → order (block_extents k b) p ≡ 2 → row (block_extents k b) (part k codes b) p ≡ row k.extents (uncut_map k codes) (embed k b p)
    face_row b hb p hp o =
        row_embed b hb (part k codes b) (uncut_map k codes) p hp (λ q h. let u : Upper (block_extents k b) p q = upper_neighbour (block_extents k b) p hp h in voxel_same b hb q u.within (u.higher ∙ ap suc o))

    face_active : (b : ℕ) → b < blocks k → (p : ℕ) → p < cells (block_extents k b) → order (block_extents k b) p ≡ 2 → active (block_extents k b) (part k codes b) p ≡ active k.extents (uncut_map k codes) (embed k b p)
    unfolding active
    face_active b hb p hp o = ap occupied (face_row b hb p hp o)

-- ---- faces and curves

-- The cells of order j of block b are active in the volume where they are active in the block, and equal rows in the block are equal in the volume.
pub record Carried (k : Cutting) (codes : List ℕ) (b j : ℕ) : Type 0 where
  pub act : (p : ℕ) → p < cells (block_extents k b) → order (block_extents k b) p ≡ j → active (block_extents k b) (part k codes b) p ≡ active k.extents (uncut_map k codes) (embed k b p)
  pub rows : (p q : ℕ) → p < cells (block_extents k b) → q < cells (block_extents k b) → order (block_extents k b) p ≡ j → order (block_extents k b) q ≡ j
      → row (block_extents k b) (part k codes b) p ≡ row (block_extents k b) (part k codes b) q → row k.extents (uncut_map k codes) (embed k b p) ≡ row k.extents (uncut_map k codes) (embed k b q)

module _ (k : Cutting) (good : good_cut k ≡ true) (codes : List ℕ) (b : ℕ) (hb : b < blocks k) where
  faces_carried : Carried k codes b 2
  faces_carried =
      record {
        act = face_active k good codes b hb;
        rows = λ p q hp hq o o' s. sym (face_row k good codes b hb p hp o) ∙ s ∙ face_row k good codes b hb q hq o';
      }

  -- cells joined in a block are joined in the volume
  pub joined_embed : (j : ℕ) → Carried k codes b j → {p q : ℕ} → p < cells (block_extents k b) → order (block_extents k b) p ≡ j
      → Joined (block_extents k b) (part k codes b) p q → Joined k.extents (uncut_map k codes) (embed k b p) (embed k b q)
  joined_embed j c hp o here = here
  joined_embed j c {p} hp o (step {q = q} r t s l) =
      let v : Upper (block_extents k b) r.at q = upper_neighbour (block_extents k b) r.at r.inside r.two in
      let o' : order (block_extents k b) q ≡ j = v.higher ∙ sym (upper_neighbour (block_extents k b) r.at r.inside r.one).higher ∙ o in
      step (meet_embed k good b hb r) (sym (c.act p hp o) ∙ t) (c.rows p q hp v.within o o' s) (joined_embed j c v.within o' l)

  -- cells with one number in the block have one number in the volume, and 0 in the one is 0 in the other
  module _ (j : ℕ) (lj : j < 3) (c : Carried k codes b j) where
    pub zero_down : (p : ℕ) → p < cells (block_extents k b) → order (block_extents k b) p ≡ j → get_or (uncut_map k codes) (embed k b p) 0 ≡ 0 → get_or (part k codes b) p 0 ≡ 0
    zero_down p hp o z =
        by_test (active (block_extents k b) (part k codes b) p)
        (λ t. absurd (omega (arith, (labels_numbering k.extents codes).positive (embed k b p) (embed_inside k good b hb p hp) (sym (c.act p hp o) ∙ t))))
        (λ t. (labels_numbering (block_extents k b) (block_codes k b codes)).inactive p hp (omega arith) t)

    pub zero_up : (p : ℕ) → p < cells (block_extents k b) → order (block_extents k b) p ≡ j → get_or (part k codes b) p 0 ≡ 0 → get_or (uncut_map k codes) (embed k b p) 0 ≡ 0
    zero_up p hp o z =
        by_test (active (block_extents k b) (part k codes b) p)
        (λ t. absurd (omega (arith, (labels_numbering (block_extents k b) (block_codes k b codes)).positive p hp t)))
        (λ t. (labels_numbering k.extents codes).inactive (embed k b p) (embed_inside k good b hb p hp) (omega (arith, embed_order k good b hb p hp)) (sym (c.act p hp o) ∙ t))

    pub same_up : (p q : ℕ) → p < cells (block_extents k b) → q < cells (block_extents k b) → order (block_extents k b) p ≡ j → order (block_extents k b) q ≡ j
        → get_or (part k codes b) p 0 ≡ get_or (part k codes b) q 0 → get_or (uncut_map k codes) (embed k b p) 0 ≡ get_or (uncut_map k codes) (embed k b q) 0
    same_up p q hp hq o o' s =
        by_test (eqb (get_or (part k codes b) p 0) 0)
        (λ t. let z : get_or (part k codes b) p 0 ≡ 0 = eqb-true _ _ t in zero_up p hp o z ∙ sym (zero_up q hq o' (sym s ∙ z)))
        (λ t.
        let d : get_or (part k codes b) p 0 ≢ 0 = eqb-false _ _ t in
        let tp : active (block_extents k b) (part k codes b) p ≡ true = numbered_active (block_extents k b) (block_codes k b codes) p hp (omega arith) (omega arith) in
        let tq : active (block_extents k b) (part k codes b) q ≡ true = numbered_active (block_extents k b) (block_codes k b codes) q hq (omega arith) (omega arith) in
        ((labels_numbering k.extents codes).shared (embed k b p) (embed k b q) (embed_inside k good b hb p hp) (embed_inside k good b hb q hq)
        (embed_order k good b hb p hp ∙ o ∙ sym o' ∙ sym (embed_order k good b hb q hq)) (sym (c.act p hp o) ∙ tp) (sym (c.act q hq o') ∙ tq)).1
        (joined_embed j c hp o (((labels_numbering (block_extents k b) (block_codes k b codes)).shared p q hp hq (o ∙ sym o') tp tq).0 s)))

module _ (k : Cutting) (good : good_cut k ≡ true) (codes : List ℕ) (b : ℕ) (hb : b < blocks k) where
  -- the number in the volume of a face of block b
  renaming : ℕ → ℕ
  renaming n = cond (eqb n 0) 0 (get_or (uncut_map k codes) (embed k b (first_cell (block_extents k b) (part k codes b) 2 n)) 0)

  renaming_is : (p : ℕ) → p < cells (block_extents k b) → order (block_extents k b) p ≡ 2 → renaming (get_or (part k codes b) p 0) ≡ get_or (uncut_map k codes) (embed k b p) 0
  unfolding renaming
  renaming_is p hp o =
      let n : ℕ = get_or (part k codes b) p 0 in
      let f : Belongs (block_extents k b) (part k codes b) 2 n (first_cell (block_extents k b) (part k codes b) 2 n) =
      belongs_at (block_extents k b) (part k codes b) 2 n p hp o refl in
      picked (λ (x : ℕ). x ≡ get_or (uncut_map k codes) (embed k b p) 0) (eqb n 0) 0 (get_or (uncut_map k codes) (embed k b (first_cell (block_extents k b) (part k codes b) 2 n)) 0)
      (λ t. sym (zero_up k good codes b hb 2 (omega arith) (faces_carried k good codes b hb) p hp o (eqb-true n 0 t)))
      (λ t. same_up k good codes b hb 2 (omega arith) (faces_carried k good codes b hb) (first_cell (block_extents k b) (part k codes b) 2 n) p f.within hp f.level o f.has)

  module _ (t : ℕ) (ht : t < cells (block_extents k b)) (ot : order (block_extents k b) t ≡ 1) where
    face_of : (p : ℕ) → Memᴰ p (upper_neighbours (block_extents k b) t) → (p < cells (block_extents k b)) × (order (block_extents k b) p ≡ 2)
    face_of p m = let u : Upper (block_extents k b) t p = upper_neighbour (block_extents k b) t ht m in (u.within, u.higher ∙ ap suc ot)

    -- around a curve cell, face cells of one face of the volume are of one face of the block
    pub face_apart : (p q : ℕ) → Memᴰ p (upper_neighbours (block_extents k b) t) → Memᴰ q (upper_neighbours (block_extents k b) t)
        → get_or (uncut_map k codes) (embed k b p) 0 ≡ get_or (uncut_map k codes) (embed k b q) 0 → get_or (part k codes b) p 0 ≡ get_or (part k codes b) q 0
    face_apart p q mp mq s =
        let fp = face_of p mp in
        let fq = face_of q mq in
        let c : Carried k codes b 2 = faces_carried k good codes b hb in
        let ip : embed k b p < cells k.extents = embed_inside k good b hb p fp.0 in
        let iq : embed k b q < cells k.extents = embed_inside k good b hb q fq.0 in
        let op : order k.extents (embed k b p) ≡ 2 = embed_order k good b hb p fp.0 ∙ fp.1 in
        let oq : order k.extents (embed k b q) ≡ 2 = embed_order k good b hb q fq.0 ∙ fq.1 in
        by_test (eqb (get_or (uncut_map k codes) (embed k b p) 0) 0)
        (λ z.
        let w : get_or (uncut_map k codes) (embed k b p) 0 ≡ 0 = eqb-true _ _ z in
        zero_down k good codes b hb 2 (omega arith) c p fp.0 fp.1 w ∙ sym (zero_down k good codes b hb 2 (omega arith) c q fq.0 fq.1 (sym s ∙ w)))
        (λ z.
        let d : get_or (uncut_map k codes) (embed k b p) 0 ≢ 0 = eqb-false _ _ z in
        let act-p : active k.extents (uncut_map k codes) (embed k b p) ≡ true = numbered_active k.extents codes (embed k b p) ip (omega arith) (omega arith) in
        let act-q : active k.extents (uncut_map k codes) (embed k b q) ≡ true = numbered_active k.extents codes (embed k b q) iq (omega arith) (omega arith) in
        let r : row k.extents (uncut_map k codes) (embed k b p) ≡ row k.extents (uncut_map k codes) (embed k b q) =
        shared_row k.extents codes (embed k b p) (embed k b q) ip iq (op ∙ sym oq) act-p act-q s in
        let bp : active (block_extents k b) (part k codes b) p ≡ true = c.act p fp.0 fp.1 ∙ act-p in
        let bq : active (block_extents k b) (part k codes b) q ≡ true = c.act q fq.0 fq.1 ∙ act-q in
        ((labels_numbering (block_extents k b) (block_codes k b codes)).shared p q fp.0 fq.0 (fp.1 ∙ sym fq.1) bp bq).1
        (step (record { at = t; inside = ht; one = mp; two = mq }) bp (face_row k good codes b hb p fp.0 fp.1 ∙ r ∙ sym (face_row k good codes b hb q fq.0 fq.1)) here))

    around : List ℕ
    around = map (λ q. get_or (part k codes b) q 0) (upper_neighbours (block_extents k b) t)

    tells : Tells renaming around
    unfolding around
    tells = record { nought = nought'; zeros = zeros'; apart = apart' }
      where
        f : ℕ → ℕ
        f q = get_or (part k codes b) q 0

        nought' : renaming 0 ≡ 0
        nought' = unfold renaming in refl

        is : (p : ℕ) → Memᴰ p (upper_neighbours (block_extents k b) t) → renaming (f p) ≡ get_or (uncut_map k codes) (embed k b p) 0
        is p m = renaming_is p (face_of p m).0 (face_of p m).1

        zeros' : (x : ℕ) → Memᴰ x (map f (upper_neighbours (block_extents k b) t)) → renaming x ≡ 0 → x ≡ 0
        zeros' x m z =
            let r = Memᴰ.of_map f (upper_neighbours (block_extents k b) t) m in
            sym r.2 ∙ zero_down k good codes b hb 2 (omega arith) (faces_carried k good codes b hb) r.0 (face_of r.0 r.1).0 (face_of r.0 r.1).1 (sym (is r.0 r.1) ∙ ap renaming r.2 ∙ z)

        apart' : (x y : ℕ) → Memᴰ x (map f (upper_neighbours (block_extents k b) t)) → Memᴰ y (map f (upper_neighbours (block_extents k b) t)) → renaming x ≡ renaming y → x ≡ y
        apart' x y m n z =
            let r = Memᴰ.of_map f (upper_neighbours (block_extents k b) t) m in
            let s = Memᴰ.of_map f (upper_neighbours (block_extents k b) t) n in
            sym r.2 ∙ face_apart r.0 s.0 r.1 s.1 (sym (is r.0 r.1) ∙ ap renaming r.2 ∙ z ∙ ap renaming (sym s.2) ∙ is s.0 s.1) ∙ s.2

    -- a curve cell's row in the volume is its block's numbers, renamed
    curve_row_lem : row k.extents (uncut_map k codes) (embed k b t) ≡ row_of (map renaming around)
    unfolding row around
    curve_row_lem =
        ap row_of
        (ap (map (λ q. get_or (uncut_map k codes) q 0)) (sym (embed_up k good b hb t ht))
        ∙ map-map (λ q. get_or (uncut_map k codes) q 0) (embed k b) (upper_neighbours (block_extents k b) t)
        ∙ map_same (λ q. get_or (uncut_map k codes) (embed k b q) 0) (λ q. renaming (get_or (part k codes b) q 0)) (upper_neighbours (block_extents k b) t) (λ q m. sym (renaming_is q (face_of q m).0 (face_of q m).1))
        ∙ sym (map-map renaming (λ q. get_or (part k codes b) q 0) (upper_neighbours (block_extents k b) t)))

    around_length : length around ≤ 6
    unfolding around
    around_length = omega (arith, length-map (upper_neighbours (block_extents k b) t) (λ q. get_or (part k codes b) q 0), length_up (block_extents k b) t)

    curve_active : active (block_extents k b) (part k codes b) t ≡ active k.extents (uncut_map k codes) (embed k b t)
    unfolding active row around
    curve_active = sym (ap occupied curve_row_lem ∙ occupied_renamed renaming around tells)

  curves_carried : Carried k codes b 1
  unfolding row around
  curves_carried =
      record {
        act = curve_active;
        rows = λ p q hp hq o o' s.
            curve_row_lem p hp o
            ∙ row_renamed renaming (around p hp o) (around q hq o') (tells p hp o) (tells q hq o') (around_length p hp o) (around_length q hq o') s
            ∙ sym (curve_row_lem q hq o');
      }

-- orders 2 and 1 alike
pub carried : (k : Cutting) → good_cut k ≡ true → (codes : List ℕ) (j : ℕ) → 0 < j → j < 3 → (b : ℕ) → b < blocks k → Carried k codes b j
carried k good codes zero lo hi b hb = absurd (omega arith)
carried k good codes (suc zero) lo hi b hb = curves_carried k good codes b hb
carried k good codes (suc (suc zero)) lo hi b hb = faces_carried k good codes b hb
carried k good codes (suc (suc (suc j))) lo hi b hb = absurd (omega arith)

-- a row in the volume, read from the block's cells: a point's row over the volume's curves
pub row_through_lem : (k : Cutting) → good_cut k ≡ true → (b : ℕ) → b < blocks k → (m : List ℕ) (p : ℕ) → p < cells (block_extents k b)
    → row k.extents m (embed k b p) ≡ row_of (map (λ q. get_or m (embed k b q) 0) (upper_neighbours (block_extents k b) p))
unfolding row
row_through_lem k good b hb m p hp =
    ap row_of (ap (map (λ q. get_or m q 0)) (sym (embed_up k good b hb p hp)) ∙ map-map (λ q. get_or m q 0) (embed k b) (upper_neighbours (block_extents k b) p))
