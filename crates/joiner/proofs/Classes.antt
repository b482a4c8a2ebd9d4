-- Once all seams are joined, and for curves all crossings, two enrolled components have one root exactly when they are one in the uncut volume.
-- Assumes nothing.
use mathlib.Core.Bool.{true}
use mathlib.Core.List.Memᴰ
use mathlib.Core.List.{List, Memᴰ, ◌++◌}
use mathlib.Core.Logic.{◌↔◌, ◌≢◌, ◌⊎◌, inl, inr}
use mathlib.Core.Path.{◌∙◌, ◌≡◌, ap, refl, subst, sym}
use Prim.Native.Nat.{◌<◌, ◌≤◌, suc, ℕ}
use native.Mathlib.Omega.{arith}
use lib.Dec.{eqb}
use lib.ListN.{get_or, length}
use borrow.Author.Tests.{eq-eqb, eqb-false, eqb-true, ne_eqb}
use Rattle.closure.specs.Joined.{edge}
use Rattle.cells.specs.declared.Triple.{Triple}
use Rattle.cells.specs.Grid.{cells, order, upper_neighbours}
use Rattle.cells.specs.Row.{row}
use Rattle.union_find.specs.Links.{root}
use Rattle.labels.specs.Components.{first_cell, largest, of_order}
use Rattle.cutting.specs.Cutting.{Cutting, block_codes, block_extents, blocks, embed, good_cut, seam}
use Rattle.cutting.specs.Nodes.{Sees, Tied, part, uncut_map}
use Rattle.joiner.specs.Outcomes.{AtCrossing, AtSeam, Together, back, joined, joined_row, same, through_links, via}
use Rattle.joiner.specs.Job.{Curve, Face, Kind, Point, Tables, first_at, node, order_of}
use Rattle.joiner.specs.Stages.{seams}
use Rattle.lists.proofs.Cases.{by_test}
use Rattle.cells.proofs.GridLaws.{Upper, length_up, upper_neighbour}
use Rattle.labels.proofs.ComponentLaws.{Belongs, belongs_at, of_order_in, of_order_out}
use Rattle.labels.proofs.CountLaws.{Somewhere, every_number, largest_bound, member_active}
use Rattle.labels.proofs.LabelLaws.{labels_numbering, numbered_active}
use Rattle.cutting.proofs.BlockLaws.{carried, row_through_lem, zero_down, zero_up}
use Rattle.cutting.proofs.CutLaws.{embed_order}
use Rattle.cutting.proofs.NodeLaws.{crossing_face, node_same, node_tied, tied_same}
use Rattle.joiner.proofs.Roots.{Connected, together_keeps}
use Rattle.joiner.proofs.Rows.{Alike, alike_turned, row_turned}
use Rattle.joiner.proofs.Shared.{Shares, seam_listed, shared_in, shared_out}
use Rattle.cutting.specs.Nodes as nodes

six : (e : Triple) (p : ℕ) → length (upper_neighbours e p) ≤ 6
six e p = omega (arith, length_up e p)

pub order_small : (κ : Kind) → order_of κ < 3
order_small Face = omega arith
order_small Curve = omega arith
order_small Point = omega arith

-- Place x is number m of block b.
pub record NodeAt (k : Cutting) (codes : List ℕ) (t : Tables) (κ : Kind) (x : ℕ) : Type 0 where
  pub b : ℕ
  pub m : ℕ
  pub listed : b < blocks k
  pub positive : 0 < m
  pub most : m ≤ largest (block_extents k b) (part k codes b) (order_of κ)
  pub is : x ≡ node t κ b m

-- What the tables hold of n enrolled components of all blocks of a volume.
pub record Layout (k : Cutting) (codes : List ℕ) (t : Tables) (κ : Kind) (n : ℕ) : Type 0 where
  pub inside : (b m : ℕ) → b < blocks k → 0 < m → m ≤ largest (block_extents k b) (part k codes b) (order_of κ) → node t κ b m < n
  pub cover : (x : ℕ) → x < n → NodeAt k codes t κ x
  pub seen : (b m : ℕ) → b < blocks k → 0 < m → m ≤ largest (block_extents k b) (part k codes b) (order_of κ)
      → first_at t κ (node t κ b m) ≡ embed k b (first_cell (block_extents k b) (part k codes b) (order_of κ) m)

-- The number in the volume of an enrolled component.
unfoldable pub vol : Cutting → List ℕ → Tables → Kind → ℕ → ℕ
vol k codes t κ x = get_or (uncut_map k codes) (first_at t κ x) 0

module _ (k : Cutting) (good : good_cut k ≡ true) (codes : List ℕ) where
  -- a cell of block b with a number is seen
  pub cell_sees : (κ : Kind) (b p : ℕ) → b < blocks k → p < cells (block_extents k b) → order (block_extents k b) p ≡ order_of κ → get_or (part k codes b) p 0 ≢ 0
      → Sees k codes (order_of κ) b (get_or (part k codes b) p 0) p
  cell_sees κ b p hb hp o z =
      record {
        listed = hb;
        within = hp;
        level = o;
        act = numbered_active (block_extents k b) (block_codes k b codes) p hp (omega (arith, order_small κ)) (omega arith);
        has = refl;
      }

  pub first_sees : (κ : Kind) (b m : ℕ) → b < blocks k → 0 < m → m ≤ largest (block_extents k b) (part k codes b) (order_of κ)
      → Sees k codes (order_of κ) b m (first_cell (block_extents k b) (part k codes b) (order_of κ) m)
  first_sees κ b m hb h0 hm =
      let e : Triple = block_extents k b in
      let h : Somewhere e (part k codes b) (order_of κ) m = every_number e (block_codes k b codes) (part k codes b) (labels_numbering e (block_codes k b codes)) (order_of κ) (order_small κ) m h0 hm in
      let f : Belongs e (part k codes b) (order_of κ) m (first_cell e (part k codes b) (order_of κ) m) =
      belongs_at e (part k codes b) (order_of κ) m h.p h.there.within h.there.level h.there.has in
      record {
        listed = hb;
        within = f.within;
        level = f.level;
        act = member_active e (block_codes k b codes) (omega (arith, order_small κ)) (omega arith) f;
        has = f.has;
      }

  pub sees_positive : (j : ℕ) {b m p : ℕ} → Sees k codes j b m p → 0 < m
  sees_positive j {b} {m} {p} s = omega (arith, s.has, (labels_numbering (block_extents k b) (block_codes k b codes)).positive p s.within s.act)

  pub sees_most : (j : ℕ) {b m p : ℕ} → Sees k codes j b m p → m ≤ largest (block_extents k b) (part k codes b) j
  sees_most j {b} {m} {p} s = omega (arith, s.has, largest_bound (block_extents k b) (part k codes b) p s.within, ap (largest (block_extents k b) (part k codes b)) s.level)

  module _ (t : Tables) (κ : Kind) (n : ℕ) (lo : 0 < order_of κ) (lay : Layout k codes t κ n) where
    pub vol_node : {b m p : ℕ} → Sees k codes (order_of κ) b m p → vol k codes t κ (node t κ b m) ≡ get_or (uncut_map k codes) (embed k b p) 0
    unfolding vol
    vol_node {b} {m} {p} s =
        let h0 : 0 < m = sees_positive (order_of κ) s in
        let hm : m ≤ largest (block_extents k b) (part k codes b) (order_of κ) = sees_most (order_of κ) s in
        ap (λ (x : ℕ). get_or (uncut_map k codes) x 0) (lay.seen b m s.listed h0 hm)
        ∙ node_same k good codes (order_of κ) lo (order_small κ) (first_sees κ b m s.listed h0 hm) s

    pub node_inside : {b m p : ℕ} → Sees k codes (order_of κ) b m p → node t κ b m < n
    node_inside {b} {m} {p} s = lay.inside b m s.listed (sees_positive (order_of κ) s) (sees_most (order_of κ) s)

    module _ (R : ℕ → ℕ → Type 0) (sound : (x y : ℕ) → R x y → vol k codes t κ x ≡ vol k codes t κ y)
        (seams : (b m d o : ℕ) → nodes.AtSeam k codes (order_of κ) b m d o → R (node t κ b m) (node t κ d o))
        (crossings : (b m o : ℕ) → nodes.AtCrossing k codes (order_of κ) b m o → Together (λ z. z) R (node t κ b m) (node t κ b o)) where
      tied_together : {b m d o : ℕ} → Tied k codes (order_of κ) true b m d o → Together (λ z. z) R (node t κ b m) (node t κ d o)
      tied_together Tied.done = same refl
      tied_together (Tied.over {b = b} {m = m} {c = d} {n = o} r l) = via (joined (seams b m d o r)) (tied_together l)
      tied_together (Tied.under {b = b} {m = m} {c = d} {n = o} r l) = via (back (joined (seams d o b m r))) (tied_together l)
      tied_together (Tied.crossed {b = b} {m = m} {n = o} x r l) = via (crossings b m o r) (tied_together l)

      -- one root exactly when one number in the volume
      pub classes : (l : List ℕ) → Connected l n R → (x y : ℕ) → x < n → y < n → (root l x ≡ root l y) ↔ (vol k codes t κ x ≡ vol k codes t κ y)
      classes l L x y hx hy = ((λ e. together_keeps (vol k codes t κ) sound ((L.one x y hx hy).0 e)), from)
        where
          from : vol k codes t κ x ≡ vol k codes t κ y → root l x ≡ root l y
          from e =
              let u : NodeAt k codes t κ x = lay.cover x hx in
              let v : NodeAt k codes t κ y = lay.cover y hy in
              let su = first_sees κ u.b u.m u.listed u.positive u.most in
              let sv = first_sees κ v.b v.m v.listed v.positive v.most in
              let w : vol k codes t κ (node t κ u.b u.m) ≡ vol k codes t κ (node t κ v.b v.m) = ap (vol k codes t κ) (sym u.is) ∙ e ∙ ap (vol k codes t κ) v.is in
              let d : Tied k codes (order_of κ) true u.b u.m v.b v.m = (node_tied k good codes (order_of κ) lo (order_small κ) su sv).0 (sym (vol_node su) ∙ w ∙ vol_node sv) in
              (L.one x y hx hy).1 (via (same u.is) (via (tied_together d) (same (sym v.is))))

-- ---- seams

pub record BySeam (k : Cutting) (codes : List ℕ) (t : Tables) (κ : Kind) (x y : ℕ) : Type 0 where
  pub b : ℕ
  pub c : ℕ
  pub joint : seam k b c ≡ true
  pub at : AtSeam k t κ b c (part k codes b) (part k codes c) x y

module _ (k : Cutting) (good : good_cut k ≡ true) (codes : List ℕ) (t : Tables) (κ : Kind) where
  seam_complete : (b m d o : ℕ) → nodes.AtSeam k codes (order_of κ) b m d o → BySeam k codes t κ (node t κ b m) (node t κ d o)
  seam_complete b m d o r =
      record {
        b = b;
        c = d;
        joint = r.joint;
        at =
            record {
              cell = edge r.p r.q;
              both = shared_in k b d r.p r.q (record { p_in = r.one.within; q_in = r.two.within; one_cell = r.same });
              level = r.one.level;
              one = λ z. omega (arith, z, r.one.has, sees_positive k good codes (order_of κ) r.one);
              two = λ z. omega (arith, z, r.two.has, sees_positive k good codes (order_of κ) r.two);
              x_is = ap (node t κ b) (sym r.one.has);
              y_is = ap (node t κ d) (sym r.two.has);
            };
      }

  -- what a seam's edge sees
  pub record Ends (x y : ℕ) : Type 0 where
    pub b : ℕ
    pub c : ℕ
    pub p : ℕ
    pub q : ℕ
    pub one : Sees k codes (order_of κ) b (get_or (part k codes b) p 0) p
    pub two : Sees k codes (order_of κ) c (get_or (part k codes c) q 0) q
    pub equal : embed k b p ≡ embed k c q
    pub x_is : x ≡ node t κ b (get_or (part k codes b) p 0)
    pub y_is : y ≡ node t κ c (get_or (part k codes c) q 0)

  seam_ends : (x y : ℕ) → BySeam k codes t κ x y → Ends x y
  seam_ends x y r =
      let a = r.at in
      let hb = seam_listed k r.b r.c r.joint in
      let s : Shares k r.b r.c a.cell.from a.cell.to = shared_out k r.b r.c a.both in
      let o : order (block_extents k r.c) a.cell.to ≡ order_of κ =
      sym (embed_order k good r.c hb.1 a.cell.to s.q_in) ∙ ap (order k.extents) (sym s.one_cell) ∙ embed_order k good r.b hb.0 a.cell.from s.p_in ∙ a.level in
      record {
        b = r.b;
        c = r.c;
        p = a.cell.from;
        q = a.cell.to;
        one = cell_sees k good codes κ r.b a.cell.from hb.0 s.p_in a.level a.one;
        two = cell_sees k good codes κ r.c a.cell.to hb.1 s.q_in o a.two;
        equal = s.one_cell;
        x_is = a.x_is;
        y_is = a.y_is;
      }

  module _ (n : ℕ) (lo : 0 < order_of κ) (lay : Layout k codes t κ n) where
    seam_sound : (x y : ℕ) → BySeam k codes t κ x y → vol k codes t κ x ≡ vol k codes t κ y
    seam_sound x y r =
        let e : Ends x y = seam_ends x y r in
        ap (vol k codes t κ) e.x_is
        ∙ vol_node k good codes t κ n lo lay e.one
        ∙ ap (λ (z : ℕ). get_or (uncut_map k codes) z 0) e.equal
        ∙ sym (vol_node k good codes t κ n lo lay e.two)
        ∙ ap (vol k codes t κ) (sym e.y_is)

-- faces: seams alone
pub face_classes : (k : Cutting) → good_cut k ≡ true → (codes : List ℕ) (t : Tables) (n : ℕ) → Layout k codes t Face n → Connected (t.links Face) n (BySeam k codes t Face)
    → (x y : ℕ) → x < n → y < n → (root (t.links Face) x ≡ root (t.links Face) y) ↔ (vol k codes t Face x ≡ vol k codes t Face y)
face_classes k good codes t n lay L =
    classes k good codes t Face n (omega arith) lay (BySeam k codes t Face) (seam_sound k good codes t Face n (omega arith) lay)
    (seam_complete k good codes t Face)
    (λ b m o r. same (ap (node t Face b) (crossing_face k good codes r))) (t.links Face) L

-- ---- crossings

pub record ByCrossing (k : Cutting) (codes : List ℕ) (t : Tables) (x y : ℕ) : Type 0 where
  pub b : ℕ
  pub listed : b < blocks k
  pub at : AtCrossing k t b (part k codes b) x y

abbrev pub ByEither : Cutting → List ℕ → Tables → ℕ → ℕ → Type 0
ByEither k codes t x y = BySeam k codes t Curve x y ⊎ ByCrossing k codes t x y

module _ (k : Cutting) (good : good_cut k ≡ true) (codes : List ℕ) (t : Tables) (n : ℕ) (lay : Layout k codes t Face n)
    (faces : (x y : ℕ) → x < n → y < n → (root (t.links Face) x ≡ root (t.links Face) y) ↔ (vol k codes t Face x ≡ vol k codes t Face y)) (b : ℕ) (hb : b < blocks k) where
  -- the two readings of a face cell of block b: its number in the volume, and its joined face
  U : ℕ → ℕ
  U q = get_or (uncut_map k codes) (embed k b q) 0

  J : ℕ → ℕ
  J q = through_links t b (get_or (part k codes b) q 0)

  J_zero : (q : ℕ) → get_or (part k codes b) q 0 ≡ 0 → J q ≡ 0
  unfolding J through_links
  J_zero q z = rw (eq-eqb _ 0 z)

  J_more : (q : ℕ) → get_or (part k codes b) q 0 ≢ 0 → J q ≡ suc (root (t.links Face) (node t Face b (get_or (part k codes b) q 0)))
  unfolding J through_links
  J_more q z = rw (ne_eqb _ 0 z)

  -- both are 0 together
  U_zero : (q : ℕ) → q < cells (block_extents k b) → order (block_extents k b) q ≡ 2 → (U q ≡ 0) ↔ (get_or (part k codes b) q 0 ≡ 0)
  unfolding U
  U_zero q hq o = (zero_down k good codes b hb 2 (omega arith) (carried k good codes 2 (omega arith) (omega arith) b hb) q hq o, zero_up k good codes b hb 2 (omega arith) (carried k good codes 2 (omega arith) (omega arith) b hb) q hq o)

  module _ (q r : ℕ) (hq : q < cells (block_extents k b)) (hr : r < cells (block_extents k b)) (oq : order (block_extents k b) q ≡ 2) (or : order (block_extents k b) r ≡ 2) where
    nq : ℕ
    nq = get_or (part k codes b) q 0

    nr : ℕ
    nr = get_or (part k codes b) r 0

    both_more : nq ≢ 0 → nr ≢ 0 → (root (t.links Face) (node t Face b nq) ≡ root (t.links Face) (node t Face b nr)) ↔ (U q ≡ U r)
    unfolding U nq nr
    both_more zq zr =
        let sq = cell_sees k good codes Face b q hb hq oq zq in
        let sr = cell_sees k good codes Face b r hb hr or zr in
        let f = faces (node t Face b nq) (node t Face b nr) (node_inside k good codes t Face n (omega arith) lay sq) (node_inside k good codes t Face n (omega arith) lay sr) in (
          (λ e. sym (vol_node k good codes t Face n (omega arith) lay sq) ∙ f.0 e ∙ vol_node k good codes t Face n (omega arith) lay sr),
          (λ e. f.1 (vol_node k good codes t Face n (omega arith) lay sq ∙ e ∙ sym (vol_node k good codes t Face n (omega arith) lay sr))),
        )

    to_J : U q ≡ U r → J q ≡ J r
    unfolding nq nr
    to_J e =
        by_test (eqb nq 0)
        (λ z. let zq : nq ≡ 0 = eqb-true nq 0 z in J_zero q zq ∙ sym (J_zero r ((U_zero r hr or).0 (sym e ∙ (U_zero q hq oq).1 zq))))
        (λ z.
        let zq : nq ≢ 0 = eqb-false nq 0 z in
        let zr : nr ≢ 0 = λ w. zq ((U_zero q hq oq).0 (e ∙ (U_zero r hr or).1 w)) in
        J_more q zq ∙ ap suc ((both_more zq zr).1 e) ∙ sym (J_more r zr))

    to_U : J q ≡ J r → U q ≡ U r
    unfolding nq nr
    to_U e =
        by_test (eqb nq 0)
        (λ z.
        let zq : nq ≡ 0 = eqb-true nq 0 z in
        by_test (eqb nr 0) (λ w. (U_zero q hq oq).1 zq ∙ sym ((U_zero r hr or).1 (eqb-true nr 0 w)))
        (λ w. absurd (omega (arith, e, J_zero q zq, J_more r (eqb-false nr 0 w)))))
        (λ z.
        let zq : nq ≢ 0 = eqb-false nq 0 z in
        by_test (eqb nr 0) (λ w. absurd (omega (arith, e, J_more q zq, J_zero r (eqb-true nr 0 w))))
        (λ w. let zr : nr ≢ 0 = eqb-false nr 0 w in (both_more zq zr).0 (omega (arith, e, J_more q zq, J_more r zr))))

  -- around two curve cells
  module _ (p q : ℕ) (hp : p < cells (block_extents k b)) (hq : q < cells (block_extents k b)) (op : order (block_extents k b) p ≡ 1) (oq : order (block_extents k b) q ≡ 1) where
    around : List ℕ
    around = upper_neighbours (block_extents k b) p ++ upper_neighbours (block_extents k b) q

    face_at_lem : (a : ℕ) → Memᴰ a around → (a < cells (block_extents k b)) × (order (block_extents k b) a ≡ 2)
    unfolding around
    face_at_lem a m = go (Memᴰ.append_cases (upper_neighbours (block_extents k b) p) m)
      where
        go : Memᴰ a (upper_neighbours (block_extents k b) p) ⊎ Memᴰ a (upper_neighbours (block_extents k b) q) → (a < cells (block_extents k b)) × (order (block_extents k b) a ≡ 2)
        go (inl i) = let u : Upper (block_extents k b) p a = upper_neighbour (block_extents k b) p hp i in (u.within, u.higher ∙ ap suc op)
        go (inr i) = let u : Upper (block_extents k b) q a = upper_neighbour (block_extents k b) q hq i in (u.within, u.higher ∙ ap suc oq)

    alike : Alike U J around
    alike =
        record {
          there = λ a d m i e. let fa = face_at_lem a m in let fd = face_at_lem d i in to_J a d fa.0 fd.0 fa.1 fd.1 e;
          here = λ a d m i e. let fa = face_at_lem a m in let fd = face_at_lem d i in to_U a d fa.0 fd.0 fa.1 fd.1 e;
          nought = λ a m. let fa = face_at_lem a m in ((λ e. J_zero a ((U_zero a fa.0 fa.1).0 e)), (λ e. U_none a fa.0 fa.1 e));
        }
      where
        U_none : (a : ℕ) → a < cells (block_extents k b) → order (block_extents k b) a ≡ 2 → J a ≡ 0 → U a ≡ 0
        U_none a ha oa e =
            by_test (eqb (get_or (part k codes b) a 0) 0) (λ z. (U_zero a ha oa).1 (eqb-true _ _ z))
            (λ z. let z' : get_or (part k codes b) a 0 ≢ 0 = eqb-false _ _ z in absurd (omega (arith, e, J_more a z')))

    -- equal over the joined faces exactly when equal in the volume
    pub rows_agree : (joined_row k t b (part k codes b) p ≡ joined_row k t b (part k codes b) q) ↔ (row k.extents (uncut_map k codes) (embed k b p) ≡ row k.extents (uncut_map k codes) (embed k b q))
    unfolding joined_row U J around
    rows_agree = (
      (λ e. row_through_lem k good b hb (uncut_map k codes) p hp ∙ row_turned J U (upper_neighbours (block_extents k b) p) (upper_neighbours (block_extents k b) q) (alike_turned U J around alike) (six _ _) (six _ _) e ∙ sym (row_through_lem k good b hb (uncut_map k codes) q hq)),
      (λ e. row_turned U J (upper_neighbours (block_extents k b) p) (upper_neighbours (block_extents k b) q) alike (six _ _) (six _ _) (sym (row_through_lem k good b hb (uncut_map k codes) p hp) ∙ e ∙ row_through_lem k good b hb (uncut_map k codes) q hq)),
    )

module _ (k : Cutting) (good : good_cut k ≡ true) (codes : List ℕ) (t : Tables) (n c : ℕ) (layf : Layout k codes t Face n) (layc : Layout k codes t Curve c)
    (faces : (x y : ℕ) → x < n → y < n → (root (t.links Face) x ≡ root (t.links Face) y) ↔ (vol k codes t Face x ≡ vol k codes t Face y)) where
  cross_sound : (x y : ℕ) → ByCrossing k codes t x y → vol k codes t Curve x ≡ vol k codes t Curve y
  cross_sound x y r =
      let a = r.at in
      let e : Triple = block_extents k r.b in
      let o = of_order_out e 0 a.cell in
      let up_p : Upper e a.at a.p = upper_neighbour e a.at o.0 a.up_p in
      let up_q : Upper e a.at a.q = upper_neighbour e a.at o.0 a.up_q in
      let op : order e a.p ≡ 1 = up_p.higher ∙ ap suc o.1 in
      let oq : order e a.q ≡ 1 = up_q.higher ∙ ap suc o.1 in
      let sp = cell_sees k good codes Curve r.b a.p r.listed up_p.within op a.one in
      let sq = cell_sees k good codes Curve r.b a.q r.listed up_q.within oq a.two in
      let w : nodes.AtCrossing k codes 1 r.b (get_or (part k codes r.b) a.p 0) (get_or (part k codes r.b) a.q 0) =
      record {
        p = a.p;
        q = a.q;
        one = sp;
        two = sq;
        meet = record { at = a.at; inside = o.0; one = a.up_p; two = a.up_q };
        same = (rows_agree k good codes t n layf faces r.b r.listed a.p a.q up_p.within up_q.within op oq).0 a.rows;
      } in
      ap (vol k codes t Curve) a.x_is
      ∙ vol_node k good codes t Curve c (omega arith) layc sp
      ∙ tied_same k good codes 1 (omega arith) (omega arith) (Tied.crossed refl w Tied.done) sp sq
      ∙ sym (vol_node k good codes t Curve c (omega arith) layc sq)
      ∙ ap (vol k codes t Curve) (sym a.y_is)

  cross_complete : (b m o : ℕ) → nodes.AtCrossing k codes 1 b m o → ByCrossing k codes t (node t Curve b m) (node t Curve b o)
  cross_complete b m o r =
      let e : Triple = block_extents k b in
      let u : Upper e r.meet.at r.p = upper_neighbour e r.meet.at r.meet.inside r.meet.one in
      let z : order e r.meet.at ≡ 0 = omega (arith, u.higher, r.one.level) in
      record {
        b = b;
        listed = r.one.listed;
        at =
            record {
              at = r.meet.at;
              p = r.p;
              q = r.q;
              cell = subst (λ (j : ℕ). Memᴰ r.meet.at (of_order e j)) z (of_order_in e r.meet.inside);
              up_p = r.meet.one;
              up_q = r.meet.two;
              one = λ w. omega (arith, w, r.one.has, sees_positive k good codes 1 r.one);
              two = λ w. omega (arith, w, r.two.has, sees_positive k good codes 1 r.two);
              rows = (rows_agree k good codes t n layf faces b r.one.listed r.p r.q r.one.within r.two.within r.one.level r.two.level).1 r.same;
              x_is = ap (node t Curve b) (sym r.one.has);
              y_is = ap (node t Curve b) (sym r.two.has);
            };
      }

  pub curve_classes : Connected (t.links Curve) c (ByEither k codes t)
      → (x y : ℕ) → x < c → y < c → (root (t.links Curve) x ≡ root (t.links Curve) y) ↔ (vol k codes t Curve x ≡ vol k codes t Curve y)
  curve_classes L =
      classes k good codes t Curve c (omega arith) layc (ByEither k codes t)
      (λ x y. elim [ inl r ↦ seam_sound k good codes t Curve c (omega arith) layc x y r | inr r ↦ cross_sound x y r ])
      (λ b m d o r. inl (seam_complete k good codes t Curve b m d o r))
      (λ b m o r. joined (inr (cross_complete b m o r))) (t.links Curve) L
