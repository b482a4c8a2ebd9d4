-- Enrolled faces and curves, joined, rank as the uncut volume numbers them.
-- Assumes nothing.
use mathlib.Core.Bool.{true}
use mathlib.Core.List.{List}
use mathlib.Core.Logic.{◌↔◌}
use mathlib.Core.Path.{◌∙◌, ◌≡◌, ap, refl, subst, sym}
use Prim.Native.Nat.{◌<◌, ◌≤◌, ℕ}
use native.Mathlib.Nat.{le_antisymm}
use native.Mathlib.Omega.{arith}
use lib.ListN.{get_or}
use Rattle.cells.specs.Grid.{cells, order}
use Rattle.cells.specs.Row.{active}
use Rattle.union_find.specs.Links.{root}
use Rattle.labels.specs.Components.{first_cell, largest}
use Rattle.cutting.specs.Cutting.{Cutting, block_extents, embed, good_cut}
use Rattle.cutting.specs.Nodes.{Sees, part, uncut_map}
use Rattle.joiner.specs.Outcomes.{class_of}
use Rattle.joiner.specs.Job.{Curve, Face, Kind, Point, Tables, first_at, node, order_of}
use Rattle.labels.proofs.ComponentLaws.{Belongs, belongs_at, least_at}
use Rattle.labels.proofs.CountLaws.{Somewhere, every_number, first_cells_ascend, largest_bound, member_active}
use Rattle.labels.proofs.LabelLaws.{labels_numbering}
use Rattle.cutting.proofs.BlockLaws.{carried}
use Rattle.cutting.proofs.CutLaws.{InBlock, blocks_cover, embed_le, embed_order}
use Rattle.cutting.proofs.NodeLaws.{sees_active, sees_in, sees_order}
use Rattle.joiner.proofs.Classes.{Layout, NodeAt, first_sees, node_inside, order_small, sees_most, sees_positive, vol, vol_node}
use Rattle.joiner.proofs.Ranked.{Ranked}

class_root : (t : Tables) (κ : Kind) (x : ℕ) → 0 < order_of κ → class_of t κ x ≡ root (t.links κ) x
unfolding class_of
class_root t Face x h = refl
class_root t Curve x h = refl
class_root t Point x h = absurd (omega arith)

module _ (k : Cutting) (good : good_cut k ≡ true) (codes : List ℕ) (t : Tables) (κ : Kind) (lo : 0 < order_of κ) (n : ℕ) (lay : Layout k codes t κ n)
    (C : (x y : ℕ) → x < n → y < n → (root (t.links κ) x ≡ root (t.links κ) y) ↔ (vol k codes t κ x ≡ vol k codes t κ y)) where
  abbrev root_at : ℕ → ℕ
  root_at N = first_cell k.extents (uncut_map k codes) (order_of κ) N

  abbrev L : ℕ
  L = largest k.extents (uncut_map k codes) (order_of κ)

  -- of an enrolled component: its number, and where it begins
  record Facts (x : ℕ) : Type 0 where
    positive : 0 < vol k codes t κ x
    most : vol k codes t κ x ≤ L
    begins : root_at (vol k codes t κ x) ≤ first_at t κ x

  facts : (x : ℕ) → x < n → Facts x
  facts x hx =
      let u : NodeAt k codes t κ x = lay.cover x hx in
      let f : ℕ = first_cell (block_extents k u.b) (part k codes u.b) (order_of κ) u.m in
      let s = first_sees k good codes κ u.b u.m u.listed u.positive u.most in
      let v : vol k codes t κ x ≡ get_or (uncut_map k codes) (embed k u.b f) 0 = ap (vol k codes t κ) u.is ∙ vol_node k good codes t κ n lo lay s in
      let a : first_at t κ x ≡ embed k u.b f = ap (first_at t κ) u.is ∙ lay.seen u.b u.m u.listed u.positive u.most in
      let i : embed k u.b f < cells k.extents = sees_in k good codes (order_of κ) lo (order_small κ) s in
      let l : order k.extents (embed k u.b f) ≡ order_of κ = sees_order k good codes (order_of κ) lo (order_small κ) s in
      record {
        positive = omega (arith, v, (labels_numbering k.extents codes).positive (embed k u.b f) i (sees_active k good codes (order_of κ) lo (order_small κ) s));
        most = omega (arith, v, largest_bound k.extents (uncut_map k codes) (embed k u.b f) i, ap (largest k.extents (uncut_map k codes)) l);
        begins = subst (λ (y : ℕ). root_at (vol k codes t κ x) ≤ y) (sym a) (subst (λ (N : ℕ). root_at N ≤ embed k u.b f) (sym v) (least_at k.extents (uncut_map k codes) (order_of κ) _ (embed k u.b f) i l refl));
      }

  -- a number is reached by the component that has its first cell
  reached' : (N : ℕ) → 0 < N → N ≤ L → (x : ℕ) × (x < n) × (vol k codes t κ x ≡ N) × (first_at t κ x ≡ root_at N)
  reached' N h0 hN = (
    node t κ b o,
    node_inside k good codes t κ n lo lay s,
    num,
    le_antisymm (subst (λ (y : ℕ). first_at t κ (node t κ b o) ≤ y) w.has.is low) (subst (λ (y : ℕ). root_at y ≤ first_at t κ (node t κ b o)) num (facts (node t κ b o) (node_inside k good codes t κ n lo lay s)).begins),
  )
    where
      r : Somewhere k.extents (uncut_map k codes) (order_of κ) N
      r = every_number k.extents codes (uncut_map k codes) (labels_numbering k.extents codes) (order_of κ) (order_small κ) N h0 hN

      f : Belongs k.extents (uncut_map k codes) (order_of κ) N (root_at N)
      f = belongs_at k.extents (uncut_map k codes) (order_of κ) N r.p r.there.within r.there.level r.there.has

      w : InBlock k (root_at N)
      w = blocks_cover k good (root_at N) f.within

      b : ℕ
      b = w.b

      q : ℕ
      q = w.has.p

      o : ℕ
      o = get_or (part k codes b) q 0

      level : order (block_extents k b) q ≡ order_of κ
      level = sym (embed_order k good b w.listed q w.has.within) ∙ ap (order k.extents) w.has.is ∙ f.level

      act : active k.extents (uncut_map k codes) (root_at N) ≡ true
      act = member_active k.extents codes (omega (arith, order_small κ)) (omega arith) f

      s : Sees k codes (order_of κ) b o q
      s = record { listed = w.listed; within = w.has.within; level = level; act = (carried k good codes (order_of κ) lo (order_small κ) b w.listed).act q w.has.within level ∙ ap (active k.extents (uncut_map k codes)) w.has.is ∙ act; has = refl }

      num : vol k codes t κ (node t κ b o) ≡ N
      num = vol_node k good codes t κ n lo lay s ∙ ap (λ (y : ℕ). get_or (uncut_map k codes) y 0) w.has.is ∙ f.has

      low : first_at t κ (node t κ b o) ≤ embed k b q
      low =
          subst (λ (y : ℕ). y ≤ embed k b q) (sym (lay.seen b o w.listed (sees_positive k good codes (order_of κ) s) (sees_most k good codes (order_of κ) s)))
          (embed_le k good b w.listed (first_cell (block_extents k b) (part k codes b) (order_of κ) o) q (least_at (block_extents k b) (part k codes b) (order_of κ) o q w.has.within level refl) w.has.within)

  pub ranked_joined : Ranked t κ n (vol k codes t κ) (λ N. first_cell k.extents (uncut_map k codes) (order_of κ) N) (largest k.extents (uncut_map k codes) (order_of κ))
  ranked_joined =
      record {
        positive = λ x h. (facts x h).positive;
        most = λ x h. (facts x h).most;
        begins = λ x h. (facts x h).begins;
        reached = reached';
        one = λ x y hx hy. subst (λ (a : ℕ). (a ≡ class_of t κ y) ↔ (vol k codes t κ x ≡ vol k codes t κ y)) (sym (class_root t κ x lo))
            (subst (λ (a : ℕ). (root (t.links κ) x ≡ a) ↔ (vol k codes t κ x ≡ vol k codes t κ y)) (sym (class_root t κ y lo)) (C x y hx hy));
        ascend = λ M N a b d. first_cells_ascend k.extents codes (uncut_map k codes) (labels_numbering k.extents codes) (order_of κ) (order_small κ) M N a b d;
      }
