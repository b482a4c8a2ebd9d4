-- A component of the volume begins at the least, over the nodes tied in it, of the first cell of the node in its block.
-- Assumes nothing.
use mathlib.Core.Path.{◌≡◌, refl, sym, ap, ◌∙◌, subst}
use mathlib.Core.Bool.{true}
use mathlib.Core.List.{List}
use Prim.Native.Nat.{ℕ, ◌≤◌, ◌<◌}
use native.Mathlib.Nat.{le_antisymm}
use native.Mathlib.Omega.{arith}
use lib.ListN.{get_or}
use Rattle.cells.specs.Grid.{order}
use Rattle.cells.specs.Row.{active}
use Rattle.labels.specs.Components.{first_cell}
use Rattle.cutting.specs.Cutting.{Cutting, good_cut, block_extents, block_codes, embed}
use Rattle.cutting.specs.Nodes.{uncut_map, part, Sees, Tied}
use Rattle.labels.proofs.LabelLaws.{labels_numbering}
use Rattle.labels.proofs.CountLaws.{member_active}
use Rattle.labels.proofs.ComponentLaws.{Belongs, least_at, belongs_at}
use Rattle.cutting.proofs.CutLaws.{InBlock, blocks_cover, embed_order, embed_le}
use Rattle.cutting.proofs.BlockLaws.{carried}
use Rattle.cutting.proofs.NodeLaws.{node_tied, node_same, sees_in, sees_order, sees_active}

-- a node whose first cell, seen in the volume, is the first cell of the component
pub record Earliest (k : Cutting) (codes : List ℕ) (j b n N : ℕ) : Type 0 where
  pub c : ℕ
  pub o : ℕ
  pub tied : Tied k codes j true b n c o
  pub is : embed k c (first_cell (block_extents k c) (part k codes c) j o) ≡ first_cell k.extents (uncut_map k codes) j N

module _ (k : Cutting) (good : good_cut k ≡ true) (codes : List ℕ) (j : ℕ) (lo : 0 < j) (hi : j < 3) where
  -- the first cell of a node, as a cell that the node sees
  first_seen : {b n p : ℕ} → Sees k codes j b n p → Sees k codes j b n (first_cell (block_extents k b) (part k codes b) j n)
  first_seen {b} {n} {p} s =
      let f : Belongs (block_extents k b) (part k codes b) j n (first_cell (block_extents k b) (part k codes b) j n) =
      belongs_at (block_extents k b) (part k codes b) j n p s.within s.level s.has in
      record {
        listed = s.listed;
        within = f.within;
        level = f.level;
        act = member_active (block_extents k b) (block_codes k b codes) (omega arith) (omega (arith, s.has, (labels_numbering (block_extents k b) (block_codes k b codes)).positive p s.within s.act)) f;
        has = f.has;
      }

  -- the component begins nowhere later than a node of it
  pub node_first : {b n p : ℕ} → Sees k codes j b n p
      → first_cell k.extents (uncut_map k codes) j (get_or (uncut_map k codes) (embed k b p) 0) ≤ embed k b (first_cell (block_extents k b) (part k codes b) j n)
  node_first {b} {n} {p} s =
      let f = first_seen s in
      least_at k.extents (uncut_map k codes) j (get_or (uncut_map k codes) (embed k b p) 0) (embed k b (first_cell (block_extents k b) (part k codes b) j n))
      (sees_in k good codes j lo hi f) (sees_order k good codes j lo hi f) (node_same k good codes j lo hi f s)

  -- and it begins where one of its nodes does
  pub first_node : {b n p : ℕ} → Sees k codes j b n p → Earliest k codes j b n (get_or (uncut_map k codes) (embed k b p) 0)
  first_node {b} {n} {p} s =
      record {
        c = d;
        o = o;
        tied = (node_tied k good codes j lo hi s u).0 (sym N_is);
        is = le_antisymm (rw (← w.has.is) (embed_le k good d w.listed (first_cell (block_extents k d) (part k codes d) j o) q (least_at (block_extents k d) (part k codes d) j o q u.within u.level refl) u.within))
            (subst (λ (x : ℕ). first_cell k.extents (uncut_map k codes) j x ≤ embed k d (first_cell (block_extents k d) (part k codes d) j o)) N_is (node_first u));
      }
    where
      N : ℕ
      N = get_or (uncut_map k codes) (embed k b p) 0

      F : ℕ
      F = first_cell k.extents (uncut_map k codes) j N

      f : Belongs k.extents (uncut_map k codes) j N F
      f = belongs_at k.extents (uncut_map k codes) j N (embed k b p) (sees_in k good codes j lo hi s) (sees_order k good codes j lo hi s) refl

      w : InBlock k F
      w = blocks_cover k good F f.within

      d : ℕ
      d = w.b

      q : ℕ
      q = w.has.p

      o : ℕ
      o = get_or (part k codes d) q 0

      positive : 0 < N
      positive = (labels_numbering k.extents codes).positive (embed k b p) (sees_in k good codes j lo hi s) (sees_active k good codes j lo hi s)

      act : active k.extents (uncut_map k codes) F ≡ true
      act = member_active k.extents codes (omega arith) positive f

      level : order (block_extents k d) q ≡ j
      level = sym (embed_order k good d w.listed q w.has.within) ∙ ap (order k.extents) w.has.is ∙ f.level

      u : Sees k codes j d o q
      u =
          record {
            listed = w.listed;
            within = w.has.within;
            level = level;
            act = (carried k good codes j lo hi d w.listed).act q w.has.within level ∙ ap (active k.extents (uncut_map k codes)) w.has.is ∙ act;
            has = refl;
          }

      N_is : get_or (uncut_map k codes) (embed k d q) 0 ≡ N
      N_is = ap (λ (x : ℕ). get_or (uncut_map k codes) x 0) w.has.is ∙ f.has
