-- Nodes are tied exactly when their cells have one number in the volume: by seams and crossings, faces by seams alone.
-- The order, 2 or 1, is a parameter.
-- Assumes nothing.
use mathlib.Core.Path.{◌≡◌, refl, sym, ap, ◌∙◌, subst}
use mathlib.Core.Bool.{Bool, true, false}
use mathlib.Core.Logic.{◌↔◌}
use mathlib.Core.List.{List}
use Prim.Native.Nat.{ℕ, ◌<◌}
use native.Mathlib.Omega.{arith}
use lib.ListN.{get_or}
use Rattle.cells.specs.declared.Triple.{Triple}
use Rattle.cells.specs.Grid.{cells, order}
use Rattle.cells.specs.Row.{row, active, occupied}
use Rattle.labels.specs.Numbering.{here, step}
use Rattle.cutting.specs.Cutting.{Cutting, good_cut, blocks, block_extents, block_codes, embed}
use Rattle.cutting.specs.Nodes.{uncut_map, part, BlockHas, SeamPath, stay, next, last, Sees, AtCrossing, Tied, done, over, under, crossed}
use Rattle.cells.proofs.GridLaws.{Upper, upper_neighbour}
use Rattle.labels.proofs.LabelLaws.{labels_numbering}
use Rattle.cutting.proofs.CutLaws.{embed_inside, embed_order, embed_same}
use Rattle.cutting.proofs.BlockLaws.{MeetIn, meet_embed, face_row, Carried, carried, same_up}
use Rattle.cutting.proofs.JoinLaws.{Chained, end, alike, cross, number_chained}
use Rattle.cutting.proofs.SeamLaws.{seam_path}

tied_link : {k : Cutting} {codes : List ℕ} {j : ℕ} {x : Bool} {b m c n d o : ℕ} → Tied k codes j x b m c n → Tied k codes j x c n d o → Tied k codes j x b m d o
tied_link done l = l
tied_link (over r h) l = over r (tied_link h l)
tied_link (under r h) l = under r (tied_link h l)
tied_link (crossed x r h) l = crossed x r (tied_link h l)

active_row_lem : (e : Triple) (m : List ℕ) (p q : ℕ) → row e m p ≡ row e m q → active e m p ≡ true → active e m q ≡ true
unfolding active
active_row_lem e m p q s t = ap occupied (sym s) ∙ t

module _ (k : Cutting) (good : good_cut k ≡ true) (codes : List ℕ) (j : ℕ) (lo : 0 < j) (hi : j < 3) where
  c : (b : ℕ) → b < blocks k → Carried k codes b j
  c = carried k good codes j lo hi

  -- a cell that a block sees is an active cell of order j of the volume
  pub sees_in : {b n p : ℕ} → Sees k codes j b n p → embed k b p < cells k.extents
  sees_in {b} {n} {p} s = embed_inside k good b s.listed p s.within

  pub sees_order : {b n p : ℕ} → Sees k codes j b n p → order k.extents (embed k b p) ≡ j
  sees_order {b} {n} {p} s = embed_order k good b s.listed p s.within ∙ s.level

  pub sees_active : {b n p : ℕ} → Sees k codes j b n p → active k.extents (uncut_map k codes) (embed k b p) ≡ true
  sees_active {b} {n} {p} s = sym ((c b s.listed).act p s.within s.level) ∙ s.act

  -- cells of one node have one number in the volume
  pub node_same : {b n p q : ℕ} → Sees k codes j b n p → Sees k codes j b n q → get_or (uncut_map k codes) (embed k b p) 0 ≡ get_or (uncut_map k codes) (embed k b q) 0
  node_same {b} {n} {p} {q} s t = same_up k good codes b s.listed j hi (c b s.listed) p q s.within t.within s.level t.level (s.has ∙ sym t.has)

  crossing_same : {b m n : ℕ} (r : AtCrossing k codes j b m n) → get_or (uncut_map k codes) (embed k b r.p) 0 ≡ get_or (uncut_map k codes) (embed k b r.q) 0
  crossing_same {b} r =
      ((labels_numbering k.extents codes).shared (embed k b r.p) (embed k b r.q) (sees_in r.one) (sees_in r.two) (sees_order r.one ∙ sym (sees_order r.two)) (sees_active r.one) (sees_active r.two)).1
      (step (meet_embed k good b r.one.listed r.meet) (sees_active r.one) r.same here)

  pub tied_same : {b m d o p q : ℕ} → Tied k codes j true b m d o → Sees k codes j b m p → Sees k codes j d o q → get_or (uncut_map k codes) (embed k b p) 0 ≡ get_or (uncut_map k codes) (embed k d q) 0
  tied_same done s t = node_same s t
  tied_same (over r l) s t = node_same s r.one ∙ ap (λ (x : ℕ). get_or (uncut_map k codes) x 0) r.same ∙ tied_same l r.two t
  tied_same (under r l) s t = node_same s r.two ∙ ap (λ (x : ℕ). get_or (uncut_map k codes) x 0) (sym r.same) ∙ tied_same l r.one t
  tied_same (crossed x r l) s t = node_same s r.one ∙ crossing_same r ∙ tied_same l r.two t

  -- one cell seen from two blocks: its nodes are tied by seams
  pub has_sees : {b n p : ℕ} → Sees k codes j b n p → (d : ℕ) → d < blocks k → (h : BlockHas k d (embed k b p)) → Sees k codes j d (get_or (part k codes d) h.p 0) h.p
  has_sees {b} {n} {p} s d hd h =
      let o : order (block_extents k d) h.p ≡ j = sym (embed_order k good d hd h.p h.within) ∙ ap (order k.extents) h.is ∙ sees_order s in
      record {
        listed = hd;
        within = h.within;
        level = o;
        act = (c d hd).act h.p h.within o ∙ ap (active k.extents (uncut_map k codes)) h.is ∙ sees_active s;
        has = refl;
      }

  along_seams : {t b d : ℕ} → SeamPath k t b d → {m o p q : ℕ} → Sees k codes j b m p → embed k b p ≡ t → Sees k codes j d o q → embed k d q ≡ t → Tied k codes j true b m d o
  along_seams {t} (stay {b = b}) {m} {o} {p} {q} s e u f =
      let same : p ≡ q = embed_same k good b s.listed p q s.within u.within (e ∙ sym f) in
      subst (Tied k codes j true b m b) (sym s.has ∙ ap (λ (x : ℕ). get_or (part k codes b) x 0) same ∙ u.has) done
  along_seams {t} (next {b = b} {c = d} hd z h l) {m} {o} {p} s e u f =
      let h' : BlockHas k d (embed k b p) = record { p = h.p; within = h.within; is = h.is ∙ sym e } in
      let v : Sees k codes j d (get_or (part k codes d) h.p 0) h.p = has_sees s d hd h' in
      over (record { joint = z; p = p; q = h.p; one = s; two = v; same = e ∙ sym h.is }) (along_seams l v h.is u f)
  along_seams {t} (last {b = b} {c = d} hd z h l) {m} {o} {p} s e u f =
      let h' : BlockHas k d (embed k b p) = record { p = h.p; within = h.within; is = h.is ∙ sym e } in
      let v : Sees k codes j d (get_or (part k codes d) h.p 0) h.p = has_sees s d hd h' in
      under (record { joint = z; p = h.p; q = p; one = v; two = s; same = h.is ∙ sym e }) (along_seams l v h.is u f)

  one_cell : {b m p d o q : ℕ} → Sees k codes j b m p → Sees k codes j d o q → embed k b p ≡ embed k d q → Tied k codes j true b m d o
  one_cell {b} {m} {p} {d} {o} {q} s u e =
      along_seams
      (seam_path k good (embed k d q) b d s.listed u.listed (record { p = p; within = s.within; is = e }) (record { p = q; within = u.within; is = refl }))
      s e u refl

  chained_tied : {x y : ℕ} → Chained k codes j x y → {b m p d o q : ℕ} → Sees k codes j b m p → embed k b p ≡ x → Sees k codes j d o q → embed k d q ≡ y → Tied k codes j true b m d o
  chained_tied end s e u f = one_cell s u (e ∙ sym f)
  chained_tied (alike r l) s e u f =
      let v : Sees k codes j r.b (get_or (part k codes r.b) r.p 0) r.p = record { listed = r.listed; within = r.p_in; level = r.p_order; act = r.p_active; has = refl } in
      let w : Sees k codes j r.b (get_or (part k codes r.b) r.p 0) r.q = record { listed = r.listed; within = r.q_in; level = r.q_order; act = r.q_active; has = sym r.same } in
      tied_link (one_cell s v (e ∙ sym r.p_is)) (chained_tied l w r.q_is u f)
  chained_tied {x} (cross {y = y} r l) {b} {m} {p} s e u f =
      let w : MeetIn k x y = r.met in
      let a : Upper (block_extents k w.b) w.meet.at w.one = upper_neighbour (block_extents k w.b) w.meet.at w.meet.inside w.meet.one in
      let z : Upper (block_extents k w.b) w.meet.at w.two = upper_neighbour (block_extents k w.b) w.meet.at w.meet.inside w.meet.two in
      let one : Sees k codes j w.b (get_or (part k codes w.b) w.one 0) w.one =
      has_sees s w.b w.listed (record { p = w.one; within = a.within; is = w.one_is ∙ sym e }) in
      let rows : row k.extents (uncut_map k codes) (embed k w.b w.one) ≡ row k.extents (uncut_map k codes) (embed k w.b w.two) =
      ap (row k.extents (uncut_map k codes)) w.one_is ∙ r.same ∙ ap (row k.extents (uncut_map k codes)) (sym w.two_is) in
      let level : order (block_extents k w.b) w.two ≡ j = z.higher ∙ sym a.higher ∙ one.level in
      let two : Sees k codes j w.b (get_or (part k codes w.b) w.two 0) w.two =
      record { listed = w.listed; within = z.within; level = level; act = (c w.b w.listed).act w.two z.within level ∙ active_row_lem k.extents (uncut_map k codes) (embed k w.b w.one) (embed k w.b w.two) rows (sees_active one); has = refl } in
      tied_link (one_cell s one (e ∙ sym w.one_is))
      (crossed refl (record { p = w.one; q = w.two; one = one; two = two; meet = w.meet; same = rows }) (chained_tied l two w.two_is u f))

  -- nodes are tied exactly when their cells have one number in the volume
  pub node_tied : {b m p d o q : ℕ} → Sees k codes j b m p → Sees k codes j d o q
      → (get_or (uncut_map k codes) (embed k b p) 0 ≡ get_or (uncut_map k codes) (embed k d q) 0) ↔ Tied k codes j true b m d o
  node_tied {b} {m} {p} {d} {o} {q} s u = (
    (λ e. chained_tied ((number_chained k good codes j lo hi (embed k b p) (embed k d q) (sees_in s) (sees_in u) (sees_order s) (sees_order u) (sees_active s) (sees_active u)).0 e) s refl u refl),
    (λ l. tied_same l s u),
  )

-- faces need no crossings: face cells that meet in a block and have one row have one number there already
pub crossing_face : (k : Cutting) → good_cut k ≡ true → (codes : List ℕ) {b m n : ℕ} → AtCrossing k codes 2 b m n → m ≡ n
crossing_face k good codes {b} r =
    let hb : b < blocks k = r.one.listed in
    sym r.one.has
    ∙ ((labels_numbering (block_extents k b) (block_codes k b codes)).shared r.p r.q r.one.within r.two.within (r.one.level ∙ sym r.two.level) r.one.act r.two.act).1
    (step r.meet r.one.act (face_row k good codes b hb r.p r.one.within r.one.level ∙ r.same ∙ sym (face_row k good codes b hb r.q r.two.within r.two.level)) here)
    ∙ r.two.has

-- a tie by seams alone is a tie
seams_tied : {k : Cutting} {codes : List ℕ} {j b m d o : ℕ} → Tied k codes j false b m d o → Tied k codes j true b m d o
seams_tied done = done
seams_tied (over r l) = over r (seams_tied l)
seams_tied (under r l) = under r (seams_tied l)
seams_tied (crossed x r l) = crossed refl r (seams_tied l)

-- so faces are tied by seams alone
pub faces_seamed : (k : Cutting) → good_cut k ≡ true → (codes : List ℕ) {b m p d o q : ℕ} → Sees k codes 2 b m p → Sees k codes 2 d o q
    → (get_or (uncut_map k codes) (embed k b p) 0 ≡ get_or (uncut_map k codes) (embed k d q) 0) ↔ Tied k codes 2 false b m d o
faces_seamed k good codes s u =
    let r = node_tied k good codes 2 (omega arith) (omega arith) s u in
    ((λ e. seams_only (r.0 e)), (λ l. r.1 (seams_tied l)))
  where
    seams_only : {b m d o : ℕ} → Tied k codes 2 true b m d o → Tied k codes 2 false b m d o
    seams_only done = done
    seams_only (over r l) = over r (seams_only l)
    seams_only (under r l) = under r (seams_only l)
    seams_only {b} {m} {d} {o} (crossed x r l) = subst (λ (n : ℕ). Tied k codes 2 false b n d o) (sym (crossing_face k good codes r)) (seams_only l)
