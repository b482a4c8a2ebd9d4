-- The faces and curves of a volume from those of its blocks: two active cells have one number in the volume exactly when a chain leads
-- from one to the other, each link two cells of one number in a block, or two cells that meet in a block and have one row in the volume.
-- The order, 2 or 1, is a parameter.
-- Assumes nothing.
use mathlib.Core.Path.{◌≡◌, sym, ap, ◌∙◌, subst}
use mathlib.Core.Bool.{true}
use mathlib.Core.Logic.{◌↔◌}
use mathlib.Core.List.{List}
use Prim.Native.Nat.{ℕ, ◌<◌}
use lib.ListN.{get_or}
use Rattle.cells.specs.Grid.{cells, order}
use Rattle.cells.specs.Row.{row, active}
use Rattle.labels.specs.Numbering.{Meet, Joined, here, step}
use Rattle.cutting.specs.Cutting.{Cutting, good_cut, blocks, block_extents, block_codes, embed}
use Rattle.cutting.specs.Nodes.{uncut_map, part}
use Rattle.cells.proofs.GridLaws.{Upper, upper_neighbour}
use Rattle.labels.proofs.LabelLaws.{labels_numbering}
use Rattle.labels.proofs.NumberLaws.{joined_then}
use Rattle.cutting.proofs.CutLaws.{embed_order}
use Rattle.cutting.proofs.BlockLaws.{MeetIn, meet_in, meet_embed, Carried, carried, joined_embed}

-- cells x and y of the volume are cells of order j of one block, which gives them one number
pub record SameIn (k : Cutting) (codes : List ℕ) (j x y : ℕ) : Type 0 where
  pub b : ℕ
  pub listed : b < blocks k
  pub p : ℕ
  pub q : ℕ
  pub p_in : p < cells (block_extents k b)
  pub q_in : q < cells (block_extents k b)
  pub p_order : order (block_extents k b) p ≡ j
  pub q_order : order (block_extents k b) q ≡ j
  pub p_active : active (block_extents k b) (part k codes b) p ≡ true
  pub q_active : active (block_extents k b) (part k codes b) q ≡ true
  pub same : get_or (part k codes b) p 0 ≡ get_or (part k codes b) q 0
  pub p_is : embed k b p ≡ x
  pub q_is : embed k b q ≡ y

-- cells x and y of the volume meet in a block that has x active, and their rows in the volume are equal
pub record CrossIn (k : Cutting) (codes : List ℕ) (x y : ℕ) : Type 0 where
  pub met : MeetIn k x y
  pub act : active (block_extents k met.b) (part k codes met.b) met.one ≡ true
  pub same : row k.extents (uncut_map k codes) x ≡ row k.extents (uncut_map k codes) y

pub data Chained (k : Cutting) (codes : List ℕ) (j : ℕ) : ℕ → ℕ → Type 0 where
  end : {x : ℕ} → Chained k codes j x x
  alike : {x y z : ℕ} → SameIn k codes j x y → Chained k codes j y z → Chained k codes j x z
  cross : {x y z : ℕ} → CrossIn k codes x y → Chained k codes j y z → Chained k codes j x z

module _ (k : Cutting) (good : good_cut k ≡ true) (codes : List ℕ) (j : ℕ) (lo : 0 < j) (hi : j < 3) where
  c : (b : ℕ) → b < blocks k → Carried k codes b j
  c = carried k good codes j lo hi

  pub joined_chained : {x y : ℕ} → order k.extents x ≡ j → Joined k.extents (uncut_map k codes) x y → Chained k codes j x y
  joined_chained o here = end
  joined_chained {x} o (step {q = y} r t s l) =
      let v : Upper k.extents r.at y = upper_neighbour k.extents r.at r.inside r.two in
      let w : MeetIn k x y = meet_in k good r in
      let u : Upper (block_extents k w.b) w.meet.at w.one = upper_neighbour (block_extents k w.b) w.meet.at w.meet.inside w.meet.one in
      let ow : order (block_extents k w.b) w.one ≡ j = sym (embed_order k good w.b w.listed w.one u.within) ∙ ap (order k.extents) w.one_is ∙ o in
      cross
      (record {
        met = w;
        act = (c w.b w.listed).act w.one u.within ow ∙ ap (active k.extents (uncut_map k codes)) w.one_is ∙ t;
        same = s;
      })
      (joined_chained (v.higher ∙ sym (upper_neighbour k.extents r.at r.inside r.one).higher ∙ o) l)

  same_joined : {x y : ℕ} → SameIn k codes j x y → Joined k.extents (uncut_map k codes) x y
  same_joined {x} {y} r =
      subst (Joined k.extents (uncut_map k codes) x) r.q_is
      (subst (λ (z : ℕ). Joined k.extents (uncut_map k codes) z (embed k r.b r.q)) r.p_is
      (joined_embed k good codes r.b r.listed j (c r.b r.listed) r.p_in r.p_order
      (((labels_numbering (block_extents k r.b) (block_codes k r.b codes)).shared r.p r.q r.p_in r.q_in (r.p_order ∙ sym r.q_order) r.p_active r.q_active).0 r.same)))

  cross_step : {x y z : ℕ} → order k.extents x ≡ j → CrossIn k codes x y → Joined k.extents (uncut_map k codes) y z → Joined k.extents (uncut_map k codes) x z
  cross_step {x} {y} o r l =
      let w : MeetIn k x y = r.met in
      let u : Upper (block_extents k w.b) w.meet.at w.one = upper_neighbour (block_extents k w.b) w.meet.at w.meet.inside w.meet.one in
      let ow : order (block_extents k w.b) w.one ≡ j = sym (embed_order k good w.b w.listed w.one u.within) ∙ ap (order k.extents) w.one_is ∙ o in
      let m : Meet k.extents x y = subst (Meet k.extents x) w.two_is (subst (λ (n : ℕ). Meet k.extents n (embed k w.b w.two)) w.one_is (meet_embed k good w.b w.listed w.meet)) in
      step m (ap (active k.extents (uncut_map k codes)) (sym w.one_is) ∙ sym ((c w.b w.listed).act w.one u.within ow) ∙ r.act) r.same l

  cross_order : {x y : ℕ} → CrossIn k codes x y → order k.extents y ≡ order k.extents x
  cross_order {x} {y} r =
      let w : MeetIn k x y = r.met in
      let m : Meet k.extents (embed k w.b w.one) (embed k w.b w.two) = meet_embed k good w.b w.listed w.meet in
      ap (order k.extents) (sym w.two_is) ∙ (upper_neighbour k.extents m.at m.inside m.two).higher ∙ sym (upper_neighbour k.extents m.at m.inside m.one).higher ∙ ap (order k.extents) w.one_is

  pub chained_joined : {x y : ℕ} → order k.extents x ≡ j → Chained k codes j x y → Joined k.extents (uncut_map k codes) x y
  chained_joined o end = here
  chained_joined o (alike r l) =
      joined_then k.extents (uncut_map k codes) (same_joined r)
      (chained_joined (ap (order k.extents) (sym r.q_is) ∙ embed_order k good r.b r.listed r.q r.q_in ∙ r.q_order) l)
  chained_joined o (cross r l) = cross_step o r (chained_joined (cross_order r ∙ o) l)

  -- two active cells of the volume share a number exactly when a chain joins them
  pub number_chained : (x y : ℕ) → x < cells k.extents → y < cells k.extents → order k.extents x ≡ j → order k.extents y ≡ j
      → active k.extents (uncut_map k codes) x ≡ true → active k.extents (uncut_map k codes) y ≡ true
      → (get_or (uncut_map k codes) x 0 ≡ get_or (uncut_map k codes) y 0) ↔ Chained k codes j x y
  number_chained x y hx hy ox oy ax ay =
      let s = (labels_numbering k.extents codes).shared x y hx hy (ox ∙ sym oy) ax ay in
      ((λ e. joined_chained ox (s.0 e)), (λ l. s.1 (chained_joined ox l)))
