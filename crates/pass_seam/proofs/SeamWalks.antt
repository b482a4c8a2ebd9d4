-- What a walk of the layers finds is what the joiner's definitions say of a seam: the layers differ, and which components become one.
-- Assumes nothing.
use mathlib.Core.Bool.{true, false, ◌&&◌, true≢false}
use mathlib.Core.List.Memᴰ
use mathlib.Core.List.{List, Memᴰ, [], ◌∷◌, ◌++◌}
use mathlib.Core.Logic.{◌↔◌, ◌≢◌, ◌⊎◌, inl, inr}
use mathlib.Core.Path.{◌≡◌, ap, refl, subst, sym, ◌∙◌}
use Prim.Native.Nat.{ℕ, zero, suc, ◌+◌, ◌-◌, ◌%◌, ◌<◌, ◌≤◌}
use native.Mathlib.Omega.{arith}
use borrow.Author.Tests.{eq-eqb, eqb-true, eqb-false, ne_eqb, lt-ltb}
use lib.Dec.{eqb}
use lib.ListN.{get_or}
use Rattle.lists.specs.Lists.{consecutive, some_of}
use Rattle.lists.proofs.Cases.{and_first, and_second, by_test}
use Rattle.lists.proofs.Lists.{consecutive_in, consecutive_out}
use Rattle.lists.proofs.Tests.{some_none, none_some}
use Rattle.closure.specs.Joined.{Edge, edge, joins}
use Rattle.closure.proofs.Classes.{joins_edge, joins_mono, joins_sound}
use Rattle.union_find.specs.Links.{root, Rooted}
use Rattle.cells.specs.Box.{coord, index}
use Rattle.cells.specs.declared.Axis.{Axis}
use Rattle.cells.specs.declared.Axis.TheVariants.{X, Y, Z}
use Rattle.cells.specs.declared.Triple.{Triple}
use Rattle.cells.specs.Grid.{cells, order, sides}
use Rattle.cells.proofs.BoxLaws.{Inside}
use Rattle.cells.proofs.GridLaws.{odd_at, side_on}
use Rattle.cutting.specs.Cutting.{Cutting, block_extents, good_cut, seam}
use Rattle.cutting.proofs.CutLaws.{embed_order, extent_on}
use Rattle.joiner.specs.Job.{Kind, Tables, count_of, from_of, node, order_of, Face, Curve, Point}
use Rattle.joiner.specs.Stages.{seam_axis, shared}
use Rattle.joiner.specs.Calls.{differs, join, layers_differ}
use Rattle.joiner.specs.Outcomes.{AtSeam, Merged, Together, same, joined, back, via}
use Rattle.joiner.proofs.Shared.{Shares, shared_in, shared_out}
use Rattle.layers.specs.Layers.{across, axis_of, cell_pair, columns_of, first_across, last_at, layer_pairs, rows_of}
use Rattle.layers.proofs.LayerLaws.{Follows, layer_differs, layer_in, layer_out, layer_shares, shares_layer, seam_follows, inside_last}
use Rattle.pass_seam.specs.Walks.{LayerOf, cell_of, cells_differ, differ_at, edges_along, has_place, join_at, layer_edges, layers_differ_to, number_at, row_differs_to, row_edges}
use Rattle.pass_seam.specs.declared.Layer.{Layer}
use Rattle.pass_seam.proofs.WalkLaws.{has_low, spoilt}

-- ---- the classes that joined edges make

module _ {before after : List ℕ} {es : List Edge} {R : ℕ → ℕ → Type 0} (J : Rooted before after (joins (root before) es)) where
  together_one : ((x y : ℕ) → R x y → Memᴰ (edge x y) es) → {x y : ℕ} → Together (root before) R x y → joins (root before) es x ≡ joins (root before) es y
  together_one f (same {x} {y} e) = joins_mono es (root before) x y e
  together_one f (joined {x} {y} r) = joins_edge es (root before) (f x y r)
  together_one f (back p) = sym (together_one f p)
  together_one f (via p q) = together_one f p ∙ together_one f q

  -- Edges that are just the pairs that R relates.
  pub joined_merged : ((x y : ℕ) → R x y → Memᴰ (edge x y) es) → ((x y : ℕ) → Memᴰ (edge x y) es → R x y) → Merged before after R
  joined_merged f g = record {
    size = J.size;
    one = λ x y. (
      λ e. joins_sound (Together (root before) R) (record { flip = back; then = via }) es (λ d i. joined (g d.from d.to i)) (root before) (λ z w h. same h) x y
          (sym (J.roots x) ∙ e ∙ J.roots y),
      λ p. J.roots x ∙ together_one f p ∙ sym (J.roots y),
    );
    sound = J.sound;
  }

-- ---- the order of a layer's cell

-- a place across an axis, even along it
order_across : (e : Triple) (a : Axis) (t u v : ℕ) → Inside (sides e) (across a t u v) → t % 2 ≡ 0 → order e (index (sides e) (across a t u v)) ≡ 3 - (u % 2 + v % 2)
unfolding order
order_across e X t u v i h = rw (odd_at e (across X t u v) i X, odd_at e (across X t u v) i Y, odd_at e (across X t u v) i Z) (omega arith)
order_across e Y t u v i h = rw (odd_at e (across Y t u v) i X, odd_at e (across Y t u v) i Y, odd_at e (across Y t u v) i Z) (omega arith)
order_across e Z t u v i h = rw (odd_at e (across Z t u v) i X, odd_at e (across Z t u v) i Y, odd_at e (across Z t u v) i Z) (omega arith)

module _ (e : Triple) (a : Axis) (some : 0 < coord e a) (u v : ℕ) (hu : u < columns_of (sides e) a) (hv : v < rows_of (sides e) a) where
  pub order_last : order e (last_at e a u v) ≡ 3 - (u % 2 + v % 2)
  unfolding last_at
  order_last = order_across e a (coord (sides e) a - 1) u v (inside_last a (sides e) u v (omega (arith, side_on e a)) hu hv) (omega (arith, side_on e a))

-- ---- the comparison

module _ (m : List ℕ) (l : Layer) (n : List ℕ) (r : Layer) where
  row_same : (v columns : ℕ) → ((u : ℕ) → u < columns → differ_at m l n r u v ≡ false) → row_differs_to m l n r v columns ≡ false
  unfolding row_differs_to
  row_same v zero h = refl
  row_same v (suc u) h = rw (row_same v u (λ w i. h w (omega arith)), h u (omega arith))

  rows_same : (columns rows : ℕ) → ((u v : ℕ) → u < columns → v < rows → differ_at m l n r u v ≡ false) → layers_differ_to m l n r columns rows ≡ false
  unfolding layers_differ_to
  rows_same columns zero h = refl
  rows_same columns (suc v) h = rw (rows_same columns v (λ u w i j. h u w i (omega arith)), row_same v columns (λ u i. h u v i (omega arith)))

  same_cells : (columns rows : ℕ) → layers_differ_to m l n r columns rows ≡ false → (u v : ℕ) → u < columns → v < rows → differ_at m l n r u v ≡ false
  same_cells columns rows e u v hu hv =
      by_test (differ_at m l n r u v) (λ t. absurd (true≢false (spoilt m l n r columns rows v u (differ_at m l n r u v) refl t hu hv ∙ e))) (λ t. t)

module _ (e f : Triple) (a : Axis) (some : 0 < coord e a) (m : List ℕ) (l : Layer) (n : List ℕ) (r : Layer) (L : LayerOf e a true l) (U : LayerOf f a false r) where
  -- one cell
  cell_differs : (u v : ℕ) → u < columns_of (sides e) a → v < rows_of (sides e) a → differs e m n (cell_pair e f a u v) ≡ differ_at m l n r u v
  unfolding differs cell_pair differ_at cells_differ number_at
  cell_differs u v hu hv = rw (L.is u v, U.is u v, test)
    where
      test : eqb (order e (last_at e a u v)) 3 ≡ eqb (u % 2 + v % 2) 0
      test =
          let o = order_last e a some u v hu hv in
          by_test (eqb (u % 2 + v % 2) 0)
          (λ t. let z = eqb-true (u % 2 + v % 2) 0 t in eq-eqb (order e (last_at e a u v)) 3 (omega arith) ∙ sym t)
          (λ t. let z = eqb-false (u % 2 + v % 2) 0 t in ne_eqb (order e (last_at e a u v)) 3 (λ q. z (omega arith)) ∙ sym t)

  -- The layers differ where the definition says.
  pub layers_are : layers_differ_to m l n r (columns_of (sides e) a) (rows_of (sides e) a) ≡ some_of (differs e m n) (layer_pairs e f a)
  layers_are =
      by_test (some_of (differs e m n) (layer_pairs e f a))
      (λ t. by_test (layers_differ_to m l n r (columns_of (sides e) a) (rows_of (sides e) a)) (λ s. s ∙ sym t) (λ s. absurd (true≢false (sym t ∙ same_pairs s))))
      (λ t. rows_same m l n r (columns_of (sides e) a) (rows_of (sides e) a)
      (λ u v hu hv. sym (cell_differs u v hu hv) ∙ some_none (differs e m n) (layer_pairs e f a) t (layer_in e f a u v hu hv)) ∙ sym t)
    where
      same_pairs : layers_differ_to m l n r (columns_of (sides e) a) (rows_of (sides e) a) ≡ false → some_of (differs e m n) (layer_pairs e f a) ≡ false
      same_pairs s = none_some (differs e m n) (layer_pairs e f a) (λ d i.
          let w = layer_out e f a i in
          ap (differs e m n) (sym w.is) ∙ cell_differs w.u w.v w.column w.row ∙ same_cells m l n r (columns_of (sides e) a) (rows_of (sides e) a) s w.u w.v w.column w.row)

-- ---- the edges

along_in : (f : ℕ → List Edge) (us : List ℕ) {u : ℕ} {d : Edge} → Memᴰ u us → Memᴰ d (f u) → Memᴰ d (edges_along f us)
unfolding edges_along
along_in f [] i j = absurd (Memᴰ.not-nil i)
along_in f (w ∷ us) {u} {d} i j = go (Memᴰ.cases_cons i) (λ k. along_in f us k j)
  where
    go : (u ≡ w) ⊎ Memᴰ u us → (Memᴰ u us → Memᴰ d (edges_along f us)) → Memᴰ d (f w ++ edges_along f us)
    go (inl q) ih = Memᴰ.append_left (edges_along f us) (subst (λ (x : ℕ). Memᴰ d (f x)) q j)
    go (inr k) ih = Memᴰ.append_right (f w) (ih k)

along_out : (f : ℕ → List Edge) (us : List ℕ) {d : Edge} → Memᴰ d (edges_along f us) → (u : ℕ) × Memᴰ u us × Memᴰ d (f u)
unfolding edges_along
along_out f [] i = absurd (Memᴰ.not-nil i)
along_out f (w ∷ us) {d} i = go (Memᴰ.append_cases (f w) i) (λ k. along_out f us k)
  where
    go : Memᴰ d (f w) ⊎ Memᴰ d (edges_along f us) → (Memᴰ d (edges_along f us) → (u : ℕ) × Memᴰ u us × Memᴰ d (f u)) → (u : ℕ) × Memᴰ u (w ∷ us) × Memᴰ d (f u)
    go (inl k) ih = (w, Memᴰ.head refl, k)
    go (inr k) ih = let z = ih k in (z.0, Memᴰ.tail z.1, z.2)

-- a number that is not 0 and at most the count has a place
has_in : (from x many size : ℕ) → x ≢ 0 → x ≤ many → from + many ≤ size → has_place from x size ≡ true
unfolding has_place
has_in from x many size h k l = rw (ne_eqb x 0 h, lt-ltb (from + (x - 1)) size (omega arith))

kind_low : (κ : Kind) → order_of κ ≤ 2
kind_low Face = omega arith
kind_low Curve = omega arith
kind_low Point = omega arith

-- an edge of the walk: at the cell of column u and row v
pub record EdgeAt (m : List ℕ) (l : Layer) (n : List ℕ) (r : Layer) (odd from to size columns rows x y : ℕ) : Type 0 where
  pub u : ℕ
  pub v : ℕ
  pub column : u < columns
  pub row : v < rows
  pub parity : u % 2 + v % 2 ≡ odd
  pub one : has_place from (number_at m l u v) size ≡ true
  pub two : has_place to (number_at n r u v) size ≡ true
  pub x_is : x ≡ from + (number_at m l u v - 1)
  pub y_is : y ≡ to + (number_at n r u v - 1)

module _ (m : List ℕ) (l : Layer) (n : List ℕ) (r : Layer) (odd from to size columns rows x y : ℕ) where
  pub edge_in : EdgeAt m l n r odd from to size columns rows x y → Memᴰ (edge x y) (layer_edges m l n r odd from to size columns rows)
  unfolding layer_edges row_edges join_at
  edge_in w =
      along_in (row_edges m l n r odd from to size columns) (consecutive 0 rows) {u = w.v} (consecutive_in 0 rows (omega arith) (omega (arith, w.row)))
      (along_in (join_at m l n r odd from to size w.v) (consecutive 0 columns) {u = w.u} (consecutive_in 0 columns (omega arith) (omega (arith, w.column)))
      (rw (eq-eqb (w.u % 2 + w.v % 2) odd w.parity, w.one, w.two, w.x_is, w.y_is) (Memᴰ.head refl)))

  -- what an edge at a cell tells
  cell_out : (u v : ℕ) → Memᴰ (edge x y) (join_at m l n r odd from to size v u)
      → (eqb (u % 2 + v % 2) odd ≡ true) × (has_place from (number_at m l u v) size ≡ true) × (has_place to (number_at n r u v) size ≡ true)
      × (edge x y ≡ edge (from + (number_at m l u v - 1)) (to + (number_at n r u v - 1)))
  unfolding join_at
  cell_out u v j = by_test (eqb (u % 2 + v % 2) odd && (has_place from (number_at m l u v) size && has_place to (number_at n r u v) size))
      (λ t. let z = and_second (eqb (u % 2 + v % 2) odd) (has_place from (number_at m l u v) size && has_place to (number_at n r u v) size) t in (
        and_first (eqb (u % 2 + v % 2) odd) (has_place from (number_at m l u v) size && has_place to (number_at n r u v) size) t,
        and_first (has_place from (number_at m l u v) size) (has_place to (number_at n r u v) size) z,
        and_second (has_place from (number_at m l u v) size) (has_place to (number_at n r u v) size) z,
        Memᴰ.eq_of_singleton (rw t at j),
      ))
      (λ t. absurd (Memᴰ.not-nil (rw t at j)))

  pub edge_out : Memᴰ (edge x y) (layer_edges m l n r odd from to size columns rows) → EdgeAt m l n r odd from to size columns rows x y
  unfolding layer_edges row_edges
  edge_out i =
      let s = along_out (row_edges m l n r odd from to size columns) (consecutive 0 rows) i in
      let t = along_out (join_at m l n r odd from to size s.0) (consecutive 0 columns) s.2 in
      let c = cell_out t.0 s.0 t.2 in
      record {
        u = t.0;
        v = s.0;
        column = omega (arith, consecutive_out 0 columns t.1);
        row = omega (arith, consecutive_out 0 rows s.1);
        parity = eqb-true (t.0 % 2 + s.0 % 2) odd c.0;
        one = c.1;
        two = c.2;
        x_is = ap (λ (d : Edge). d.from) c.3;
        y_is = ap (λ (d : Edge). d.to) c.3;
      }

-- ---- the two blocks of a seam

module _ (k : Cutting) (good : good_cut k ≡ true) (b c : ℕ) (a : Axis) (F : Follows k b c a) (m : List ℕ) (l : Layer) (n : List ℕ) (r : Layer)
    (L : LayerOf (block_extents k b) a true l) (U : LayerOf (block_extents k c) a false r) where
  some_voxels : 0 < coord (block_extents k b) a
  some_voxels = omega (arith, extent_on k b a)

  -- "On a seam a code differs, or a cell is active in one block only."
  pub layers_shared : layers_differ_to m l n r (columns_of (sides (block_extents k b)) a) (rows_of (sides (block_extents k b)) a) ≡ some_of (differs (block_extents k b) m n) (shared k b c)
  layers_shared = layers_are (block_extents k b) (block_extents k c) a some_voxels m l n r L U ∙ sym (layer_differs k good b c a F (differs (block_extents k b) m n))

  -- the numbers of the maps have their places: each is at most its block's count
  module _ (t : Tables) (κ : Kind) (size : ℕ)
      (low : (p : ℕ) → p < cells (block_extents k b) → order (block_extents k b) p ≡ order_of κ → get_or m p 0 ≤ count_of t κ b)
      (high : (p : ℕ) → p < cells (block_extents k c) → order (block_extents k c) p ≡ order_of κ → get_or n p 0 ≤ count_of t κ c)
      (low_fits : from_of t κ b + count_of t κ b ≤ size) (high_fits : from_of t κ c + count_of t κ c ≤ size) where
    seam_in : {x y : ℕ} → AtSeam k t κ b c m n x y
        → EdgeAt m l n r (3 - order_of κ) (from_of t κ b) (from_of t κ c) size (columns_of (sides (block_extents k b)) a) (rows_of (sides (block_extents k b)) a) x y
    unfolding number_at node cell_pair
    seam_in A =
        let S = shared_out k b c A.both in
        let w = shares_layer k good b c a F A.cell.from A.cell.to S in
        let p : cell_of l w.u w.v ≡ A.cell.from = L.is w.u w.v ∙ ap (λ (d : Edge). d.from) w.is in
        let q : cell_of r w.u w.v ≡ A.cell.to = U.is w.u w.v ∙ ap (λ (d : Edge). d.to) w.is in
        let o : order (block_extents k b) A.cell.from ≡ 3 - (w.u % 2 + w.v % 2) =
        ap (order (block_extents k b)) (sym (ap (λ (d : Edge). d.from) w.is)) ∙ order_last (block_extents k b) a some_voxels w.u w.v w.column w.row in
        record {
          u = w.u;
          v = w.v;
          column = w.column;
          row = w.row;
          parity = omega (arith, A.level);
          one = rw p (has_in (from_of t κ b) (get_or m A.cell.from 0) (count_of t κ b) size A.one (low A.cell.from S.p_in A.level) low_fits);
          two = rw q (has_in (from_of t κ c) (get_or n A.cell.to 0) (count_of t κ c) size A.two (high A.cell.to S.q_in (level_up S A.level)) high_fits);
          x_is = A.x_is ∙ rw p;
          y_is = A.y_is ∙ rw q;
        }
      where
        level_up : Shares k b c A.cell.from A.cell.to → order (block_extents k b) A.cell.from ≡ order_of κ → order (block_extents k c) A.cell.to ≡ order_of κ
        level_up S h =
            sym (embed_order k good c F.upper_in A.cell.to S.q_in) ∙ ap (order k.extents) (sym S.one_cell)
            ∙ embed_order k good b F.lower_in A.cell.from S.p_in ∙ h

    seam_out : {x y : ℕ} → EdgeAt m l n r (3 - order_of κ) (from_of t κ b) (from_of t κ c) size (columns_of (sides (block_extents k b)) a) (rows_of (sides (block_extents k b)) a) x y
        → AtSeam k t κ b c m n x y
    unfolding number_at node
    seam_out w =
        let o = order_last (block_extents k b) a some_voxels w.u w.v w.column w.row in
        record {
          cell = edge (last_at (block_extents k b) a w.u w.v) (first_across (block_extents k c) a w.u w.v);
          both = shared_in k b c (last_at (block_extents k b) a w.u w.v) (first_across (block_extents k c) a w.u w.v) (layer_shares k good b c a F w.u w.v w.column w.row);
          level = omega (arith, w.parity, kind_low κ);
          one = λ z. let h = has_low (from_of t κ b) (get_or m (cell_of l w.u w.v) 0) size w.one in omega (arith, ap (λ (i : ℕ). get_or m i 0) (L.is w.u w.v));
          two = λ z. let h = has_low (from_of t κ c) (get_or n (cell_of r w.u w.v) 0) size w.two in omega (arith, ap (λ (i : ℕ). get_or n i 0) (U.is w.u w.v));
          x_is = rw (← L.is w.u w.v) w.x_is;
          y_is = rw (← U.is w.u w.v) w.y_is;
        }

    -- "Numbers of one active face or curve cell seen from both blocks become the same component."
    pub edges_at_seam : (x y : ℕ) → AtSeam k t κ b c m n x y
        ↔ Memᴰ (edge x y) (layer_edges m l n r (3 - order_of κ) (from_of t κ b) (from_of t κ c) size (columns_of (sides (block_extents k b)) a) (rows_of (sides (block_extents k b)) a))
    edges_at_seam x y = (λ A. edge_in m l n r (3 - order_of κ) (from_of t κ b) (from_of t κ c) size _ _ x y (seam_in A), λ i. seam_out (edge_out m l n r (3 - order_of κ) (from_of t κ b) (from_of t κ c) size _ _ x y i))

    -- So the links that the walk leaves are those that the definition asks for.
    pub seam_merged : {before after : List ℕ}
        → Rooted before after (joins (root before) (layer_edges m l n r (3 - order_of κ) (from_of t κ b) (from_of t κ c) size (columns_of (sides (block_extents k b)) a) (rows_of (sides (block_extents k b)) a)))
        → Merged before after (AtSeam k t κ b c m n)
    seam_merged J = joined_merged J (λ x y. (edges_at_seam x y).0) (λ x y. (edges_at_seam x y).1)

-- ---- a seam, by the number of its axis

module _ (k : Cutting) (good : good_cut k ≡ true) (b c : ℕ) (is_seam : seam k b c ≡ true) (axis columns rows : ℕ) (number : axis ≡ seam_axis k b c)
    (m : List ℕ) (l : Layer) (n : List ℕ) (r : Layer) (L : LayerOf (block_extents k b) (axis_of axis) true l) (U : LayerOf (block_extents k c) (axis_of axis) false r)
    (wide : columns ≡ columns_of (sides (block_extents k b)) (axis_of axis)) (high : rows ≡ rows_of (sides (block_extents k b)) (axis_of axis)) where
  along_axis : Follows k b c (axis_of axis)
  along_axis = rw number (seam_follows k b c is_seam)

  -- Refusal 9 is what the comparison tells.
  pub seam_differs : layers_differ_to m l n r columns rows ≡ layers_differ k (join b c m n)
  seam_differs = rw (wide, high) (layers_shared k good b c (axis_of axis) along_axis m l n r L U)

  -- The links that the walk leaves.
  pub seam_joined : (t : Tables) (κ : Kind) (odd size : ℕ) → odd ≡ 3 - order_of κ
      → ((p : ℕ) → p < cells (block_extents k b) → order (block_extents k b) p ≡ order_of κ → get_or m p 0 ≤ count_of t κ b)
      → ((p : ℕ) → p < cells (block_extents k c) → order (block_extents k c) p ≡ order_of κ → get_or n p 0 ≤ count_of t κ c)
      → from_of t κ b + count_of t κ b ≤ size → from_of t κ c + count_of t κ c ≤ size → (before after : List ℕ)
      → Rooted before after (joins (root before) (layer_edges m l n r odd (from_of t κ b) (from_of t κ c) size columns rows)) → Merged before after (AtSeam k t κ b c m n)
  seam_joined t κ odd size o low up low_fits up_fits before after J =
      seam_merged k good b c (axis_of axis) along_axis m l n r L U t κ size low up low_fits up_fits (rw (o, wide, high) at J)
