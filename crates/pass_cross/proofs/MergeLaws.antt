-- The edges that the crossing pass joins are what the joiner's definitions make one.
-- Assumes nothing.
use mathlib.Core.Bool.{not, ◌&&◌}
use mathlib.Core.List.Memᴰ
use mathlib.Core.List.{List, Memᴰ}
use mathlib.Core.Logic.{◌⊎◌, inl, inr, ◌≢◌}
use mathlib.Core.Path.{◌≡◌, ap, refl, sym}
use Prim.Native.Nat.{ℕ, ◌-◌}
use lib.Dec.{eqb}
use lib.ListN.{get_or}
use borrow.Author.Tests.{eqb-false, ne_eqb, not-true}
use Rattle.lists.proofs.Cases.{by_test, and_first, and_second}
use Rattle.closure.specs.Joined.{Edge, edge, joins}
use Rattle.closure.proofs.Classes.{joins_edge}
use Rattle.union_find.specs.Links.{root, Rooted}
use Rattle.cells.specs.declared.Triple.{Triple}
use Rattle.cells.specs.Grid.{upper_neighbours}
use Rattle.cells.specs.Row.{same_row}
use Rattle.cells.proofs.RowLaws.{row_same, same_row_lem}
use Rattle.labels.specs.Number.{pairs}
use Rattle.labels.specs.Components.{of_order}
use Rattle.labels.proofs.NumberLaws.{pairs_in_lem, pairs_out}
use Rattle.cutting.specs.Cutting.{Cutting, block_extents}
use Rattle.joiner.specs.Job.{Face, Curve, Tables, from_of, node}
use Rattle.joiner.specs.Outcomes.{AtCrossing, Merged, joined, through_links, joined_row}
use Rattle.theory_model.proofs.Merging.{joins_merged_by}
use Rattle.pass_cross.specs.CrossEdges.{place_of, read_through, numbers_through, row_through, edge_if, cross_pair, cross_at, cross_edges}
use Rattle.lists.proofs.Flat.{flat_in, flat_out}

-- ---- two numbers

if_in : (from x y : ℕ) (r s : List ℕ) → x ≢ 0 → y ≢ 0 → r ≡ s → Memᴰ (edge (place_of from x) (place_of from y)) (edge_if from x y r s)
unfolding edge_if
if_in from x y r s h k q = rw (ne_eqb x 0 h, ne_eqb y 0 k, q, row_same s) (Memᴰ.head refl)

-- what an edge tells of its numbers and rows
record EqualRows (from x y : ℕ) (r s : List ℕ) (d : Edge) : Type 0 where
  one : x ≢ 0
  two : y ≢ 0
  rows : r ≡ s
  is : d ≡ edge (place_of from x) (place_of from y)

if_out : (from x y : ℕ) (r s : List ℕ) (d : Edge) → Memᴰ d (edge_if from x y r s) → EqualRows from x y r s d
unfolding edge_if
if_out from x y r s d i =
    by_test (not (eqb x 0) && (not (eqb y 0) && same_row r s))
    (λ t.
    let u = and_second (not (eqb x 0)) (not (eqb y 0) && same_row r s) t in
    record {
      one = eqb-false x 0 (not-true (eqb x 0) (and_first (not (eqb x 0)) (not (eqb y 0) && same_row r s) t));
      two = eqb-false y 0 (not-true (eqb y 0) (and_first (not (eqb y 0)) (same_row r s) u));
      rows = same_row_lem r s (and_second (not (eqb y 0)) (same_row r s) u);
      is = Memᴰ.eq_of_singleton (rw t at i);
    })
    (λ t. absurd (Memᴰ.not-nil (rw t at i)))

-- ---- all cells of the order below

module _ (e : Triple) (m : List ℕ) (j : ℕ) (f : ℕ → ℕ) (start from : ℕ) where
  edge_in : (t p q : ℕ) → Memᴰ t (of_order e (j - 1)) → Memᴰ (edge p q) (pairs (upper_neighbours e t)) → get_or m p 0 ≢ 0 → get_or m q 0 ≢ 0
      → row_through m f start (upper_neighbours e p) ≡ row_through m f start (upper_neighbours e q) → Memᴰ (edge (place_of from (get_or m p 0)) (place_of from (get_or m q 0))) (cross_edges e m j f start from)
  unfolding cross_edges cross_at cross_pair
  edge_in t p q c i h k r =
      flat_in (cross_at e m f start from) (of_order e (j - 1)) c (flat_in (cross_pair e m f start from) (pairs (upper_neighbours e t)) i (if_in from (get_or m p 0) (get_or m q 0) _ _ h k r))

  -- What crosses is joined.
  crossing_joined : (g : ℕ → ℕ) (t p q : ℕ) → Memᴰ t (of_order e (j - 1)) → Memᴰ p (upper_neighbours e t) → Memᴰ q (upper_neighbours e t) → get_or m p 0 ≢ 0 → get_or m q 0 ≢ 0
      → row_through m f start (upper_neighbours e p) ≡ row_through m f start (upper_neighbours e q)
      → joins g (cross_edges e m j f start from) (place_of from (get_or m p 0)) ≡ joins g (cross_edges e m j f start from) (place_of from (get_or m q 0))
  crossing_joined g t p q c u v h k r = go (pairs_in_lem (upper_neighbours e t) u v)
    where
      es : List Edge
      es = cross_edges e m j f start from

      go : (p ≡ q) ⊎ (Memᴰ (edge p q) (pairs (upper_neighbours e t)) ⊎ Memᴰ (edge q p) (pairs (upper_neighbours e t))) → joins g es (place_of from (get_or m p 0)) ≡ joins g es (place_of from (get_or m q 0))
      go (inl s) = ap (λ (z : ℕ). joins g es (place_of from (get_or m z 0))) s
      go (inr (inl i)) = joins_edge es g (edge_in t p q c i h k r)
      go (inr (inr i)) = sym (joins_edge es g (edge_in t q p c i k h (sym r)))

-- ---- curves, at the point cells of a block

module _ (k : Cutting) (t : Tables) (b : ℕ) (m : List ℕ) where
  abbrev curves : List Edge
  curves = cross_edges (block_extents k b) m 1 (root (t.links Face)) (from_of t Face b) (from_of t Curve b)

  curves_joined : (g : ℕ → ℕ) (x y : ℕ) → AtCrossing k t b m x y → joins g curves x ≡ joins g curves y
  unfolding joined_row through_links node row_through numbers_through read_through place_of
  curves_joined g x y c =
      rw (c.x_is, c.y_is) (crossing_joined (block_extents k b) m 1 (root (t.links Face)) (from_of t Face b) (from_of t Curve b) g c.at c.p c.q c.cell c.up_p c.up_q c.one c.two c.rows)

  -- Every edge is between what crosses.
  curve_edge : (d : Edge) → Memᴰ d curves → AtCrossing k t b m d.from d.to
  unfolding cross_edges cross_at cross_pair joined_row through_links node row_through numbers_through read_through place_of
  curve_edge d i =
      let e = block_extents k b in
      let s = flat_out (cross_at e m (root (t.links Face)) (from_of t Face b) (from_of t Curve b)) (of_order e 0) i in
      let u = flat_out (cross_pair e m (root (t.links Face)) (from_of t Face b) (from_of t Curve b)) (pairs (upper_neighbours e s.0)) s.2 in
      let c : Edge = u.0 in
      let w = pairs_out (upper_neighbours e s.0) {p = c.from} {q = c.to} u.1 in
      let z = if_out (from_of t Curve b) (get_or m c.from 0) (get_or m c.to 0) _ _ d u.2 in
      record {
        at = s.0;
        p = c.from;
        q = c.to;
        cell = s.1;
        up_p = w.0;
        up_q = w.1;
        one = z.one;
        two = z.two;
        rows = z.rows;
        x_is = ap (λ (v : Edge). v.from) z.is;
        y_is = ap (λ (v : Edge). v.to) z.is;
      }

-- With the edges at its point cells joined, a block's curves are crossed.
pub crossing_merged : (k : Cutting) (t : Tables) (b : ℕ) (m : List ℕ) (e : Triple) (above : List ℕ) (start from : ℕ) (links links' : List ℕ) → block_extents k b ≡ e → t.links Face ≡ above
    → from_of t Face b ≡ start → from_of t Curve b ≡ from → Rooted links links' (joins (root links) (cross_edges e m 1 (root above) start from)) → Merged links links' (AtCrossing k t b m)
crossing_merged k t b m e above start from links links' p q r s R =
    let J : Rooted links links' (joins (root links) (curves k t b m)) = rw (p, q, r, s) R in
    joins_merged_by links links' (curves k t b m) (AtCrossing k t b m) J (curves_joined k t b m (root links)) (λ d i. joined (curve_edge k t b m d i))
