-- The lists of edges hold exactly what a seam and a crossing make one.
-- Assumes nothing.
use mathlib.Core.Bool.{true, not, ◌&&◌}
use mathlib.Core.List.Memᴰ
use mathlib.Core.List.{List, [], ◌∷◌, map, Memᴰ}
use mathlib.Core.Logic.{◌⊎◌, inl, inr, ◌≢◌}
use mathlib.Core.Path.{◌≡◌, ap, refl, subst, sym}
use Prim.Native.Nat.{ℕ}
use lib.Dec.{eqb}
use lib.ListN.{get_or}
use borrow.Author.Tests.{eq-eqb, eqb-false, eqb-true, ne_eqb, not-true}
use Rattle.lists.specs.Lists.{keep}
use Rattle.closure.specs.Joined.{Edge, edge}
use Rattle.cells.specs.Grid.{order, upper_neighbours}
use Rattle.cells.specs.Row.{same_row}
use Rattle.labels.specs.Components.{of_order}
use Rattle.cutting.specs.Cutting.{Cutting, block_extents}
use Rattle.joiner.specs.Job.{Kind, order_of, Tables}
use Rattle.joiner.specs.Stages.{products, shared}
use Rattle.joiner.specs.Outcomes.{AtCrossing, AtSeam, joined_row}
use Rattle.lists.proofs.Cases.{and_both, and_first, and_second}
use Rattle.lists.proofs.Lists.{keep_in, keep_out}
use Rattle.cells.proofs.RowLaws.{row_same, same_row_lem}
use Rattle.joiner.proofs.Shared.{products_in, products_out}
use Rattle.theory_model.specs.Model.{at_crossing, at_seam, cross_edge, cross_edges, cross_edges_at, seam_edge, seam_edges}

-- a number is there
there : (x : ℕ) → x ≢ 0 → not (eqb x 0) ≡ true
there x h = ap not (ne_eqb x 0 h)

there_not : (x : ℕ) → not (eqb x 0) ≡ true → x ≢ 0
there_not x e = eqb-false x 0 (not-true (eqb x 0) e)

-- ---- seam

module _ (k : Cutting) (t : Tables) (κ : Kind) (b c : ℕ) (m n : List ℕ) where
  pub seam_edges_in : (x y : ℕ) → AtSeam k t κ b c m n x y → Memᴰ (edge x y) (seam_edges k t κ b c m n)
  unfolding seam_edges seam_edge at_seam
  seam_edges_in x y r =
      let d : Edge = r.cell in
      subst (λ (z : Edge). Memᴰ z (seam_edges k t κ b c m n)) (λ i. edge (sym r.x_is i) (sym r.y_is i))
      (Memᴰ.map (seam_edge t κ b c m n)
      (keep_in (at_seam k κ b m n) (shared k b c) r.both
      (and_both (eqb (order (block_extents k b) d.from) (order_of κ)) (not (eqb (get_or m d.from 0) 0) && not (eqb (get_or n d.to 0) 0))
      (eq-eqb _ _ r.level)
      (and_both (not (eqb (get_or m d.from 0) 0)) (not (eqb (get_or n d.to 0) 0)) (there (get_or m d.from 0) r.one) (there (get_or n d.to 0) r.two)))))

  pub seam_edges_out : (e : Edge) → Memᴰ e (seam_edges k t κ b c m n) → AtSeam k t κ b c m n e.from e.to
  unfolding seam_edges seam_edge at_seam
  seam_edges_out e h =
      let r = Memᴰ.of_map (seam_edge t κ b c m n) (keep (at_seam k κ b m n) (shared k b c)) h in
      let d : Edge = r.0 in
      let q = keep_out (at_seam k κ b m n) (shared k b c) r.1 in
      let a : (not (eqb (get_or m d.from 0) 0) && not (eqb (get_or n d.to 0) 0)) ≡ true = and_second (eqb (order (block_extents k b) d.from) (order_of κ)) _ q.1 in
      record {
        cell = d;
        both = q.0;
        level = eqb-true _ _ (and_first (eqb (order (block_extents k b) d.from) (order_of κ)) (not (eqb (get_or m d.from 0) 0) && not (eqb (get_or n d.to 0) 0)) q.1);
        one = there_not (get_or m d.from 0) (and_first (not (eqb (get_or m d.from 0) 0)) (not (eqb (get_or n d.to 0) 0)) a);
        two = there_not (get_or n d.to 0) (and_second (not (eqb (get_or m d.from 0) 0)) (not (eqb (get_or n d.to 0) 0)) a);
        x_is = ap (λ (z : Edge). z.from) (sym r.2);
        y_is = ap (λ (z : Edge). z.to) (sym r.2);
      }

-- ---- crossing

module _ (k : Cutting) (t : Tables) (b : ℕ) (m : List ℕ) where
  -- the edge of two upper neighbours
  at_in : (p q : ℕ) → get_or m p 0 ≢ 0 → get_or m q 0 ≢ 0 → joined_row k t b m p ≡ joined_row k t b m q → at_crossing k t b m (edge p q) ≡ true
  unfolding at_crossing
  at_in p q hp hq e =
      and_both (not (eqb (get_or m p 0) 0) && not (eqb (get_or m q 0) 0)) (same_row (joined_row k t b m p) (joined_row k t b m q))
      (and_both (not (eqb (get_or m p 0) 0)) (not (eqb (get_or m q 0) 0)) (there (get_or m p 0) hp) (there (get_or m q 0) hq))
      (subst (λ (r : List ℕ). same_row (joined_row k t b m p) r ≡ true) e (row_same (joined_row k t b m p)))

  at_out : (d : Edge) → at_crossing k t b m d ≡ true → (get_or m d.from 0 ≢ 0) × (get_or m d.to 0 ≢ 0) × (joined_row k t b m d.from ≡ joined_row k t b m d.to)
  unfolding at_crossing
  at_out d e =
      let a : (not (eqb (get_or m d.from 0) 0) && not (eqb (get_or m d.to 0) 0)) ≡ true = and_first (not (eqb (get_or m d.from 0) 0) && not (eqb (get_or m d.to 0) 0)) _ e in (
        there_not (get_or m d.from 0) (and_first (not (eqb (get_or m d.from 0) 0)) (not (eqb (get_or m d.to 0) 0)) a),
        there_not (get_or m d.to 0) (and_second (not (eqb (get_or m d.from 0) 0)) (not (eqb (get_or m d.to 0) 0)) a),
        same_row_lem _ _ (and_second (not (eqb (get_or m d.from 0) 0) && not (eqb (get_or m d.to 0) 0)) (same_row (joined_row k t b m d.from) (joined_row k t b m d.to)) e),
      )

  edges_in : (ps : List ℕ) (x y : ℕ) (r : AtCrossing k t b m x y) → Memᴰ r.at ps → Memᴰ (edge x y) (cross_edges_at k t b m ps)
  unfolding cross_edges_at cross_edge
  edges_in [] x y r h = absurd (Memᴰ.not-nil h)
  edges_in (a ∷ ps) x y r h = go (Memᴰ.cases_cons h) (λ j. edges_in ps x y r j)
    where
      go : (r.at ≡ a) ⊎ Memᴰ r.at ps → (Memᴰ r.at ps → Memᴰ (edge x y) (cross_edges_at k t b m ps)) → Memᴰ (edge x y) (cross_edges_at k t b m (a ∷ ps))
      go (inl e) ih =
          Memᴰ.append_left (cross_edges_at k t b m ps)
          (subst (λ (z : Edge). Memᴰ z (map (cross_edge t b m) (keep (at_crossing k t b m) (products (upper_neighbours (block_extents k b) a) (upper_neighbours (block_extents k b) a)))))
          (λ i. edge (sym r.x_is i) (sym r.y_is i))
          (Memᴰ.map (cross_edge t b m)
          (keep_in (at_crossing k t b m) (products (upper_neighbours (block_extents k b) a) (upper_neighbours (block_extents k b) a))
          (products_in _ _ (subst (λ (z : ℕ). Memᴰ r.p (upper_neighbours (block_extents k b) z)) e r.up_p) (subst (λ (z : ℕ). Memᴰ r.q (upper_neighbours (block_extents k b) z)) e r.up_q))
          (at_in r.p r.q r.one r.two r.rows))))
      go (inr j) ih = Memᴰ.append_right (map (cross_edge t b m) (keep (at_crossing k t b m) (products (upper_neighbours (block_extents k b) a) (upper_neighbours (block_extents k b) a)))) (ih j)

  edges_out : (ps : List ℕ) → ((p : ℕ) → Memᴰ p ps → Memᴰ p (of_order (block_extents k b) 0)) → (e : Edge) → Memᴰ e (cross_edges_at k t b m ps)
      → AtCrossing k t b m e.from e.to
  unfolding cross_edges_at cross_edge
  edges_out [] w e h = absurd (Memᴰ.not-nil h)
  edges_out (a ∷ ps) w e h =
      go (Memᴰ.append_cases (map (cross_edge t b m) (keep (at_crossing k t b m) (products (upper_neighbours (block_extents k b) a) (upper_neighbours (block_extents k b) a)))) h)
      (λ j. edges_out ps (λ p i. w p (Memᴰ.tail i)) e j)
    where
      go : Memᴰ e (map (cross_edge t b m) (keep (at_crossing k t b m) (products (upper_neighbours (block_extents k b) a) (upper_neighbours (block_extents k b) a)))) ⊎ Memᴰ e (cross_edges_at k t b m ps)
          → (Memᴰ e (cross_edges_at k t b m ps) → AtCrossing k t b m e.from e.to) → AtCrossing k t b m e.from e.to
      go (inl j) ih =
          let r = Memᴰ.of_map (cross_edge t b m) (keep (at_crossing k t b m) (products (upper_neighbours (block_extents k b) a) (upper_neighbours (block_extents k b) a))) j in
          let d : Edge = r.0 in
          let q = keep_out (at_crossing k t b m) (products (upper_neighbours (block_extents k b) a) (upper_neighbours (block_extents k b) a)) r.1 in
          let u = products_out (upper_neighbours (block_extents k b) a) (upper_neighbours (block_extents k b) a) q.0 in
          let v = at_out d q.1 in
          record {
            at = a;
            p = d.from;
            q = d.to;
            cell = w a (Memᴰ.head refl);
            up_p = u.0;
            up_q = u.1;
            one = v.0;
            two = v.1;
            rows = v.2;
            x_is = ap (λ (z : Edge). z.from) (sym r.2);
            y_is = ap (λ (z : Edge). z.to) (sym r.2);
          }
      go (inr j) ih = ih j

  pub cross_edges_in : (x y : ℕ) → AtCrossing k t b m x y → Memᴰ (edge x y) (cross_edges k t b m)
  unfolding cross_edges
  cross_edges_in x y r = edges_in (of_order (block_extents k b) 0) x y r r.cell

  pub cross_edges_out : (e : Edge) → Memᴰ e (cross_edges k t b m) → AtCrossing k t b m e.from e.to
  unfolding cross_edges
  cross_edges_out e h = edges_out (of_order (block_extents k b) 0) (λ p i. i) e h
