-- The laws of a layer's walk, one for each way of the code.
-- Assumes nothing.
use mathlib.Core.Bool.{Bool, true, false, not, or-true}
use mathlib.Core.List.{List, [], ◌++◌}
use mathlib.Core.Path.{◌≡◌, refl, sym, ◌∙◌}
use Prim.Native.Nat.{ℕ, zero, suc, ◌+◌, ◌-◌, ◌*◌, ◌%◌, ◌^◌, ◌<◌, ◌≤◌}
use native.Mathlib.Nat.{add-zero, add-suc, mul-le-mul}
use native.Mathlib.Numerals.{add-one}
use native.Mathlib.Omega.{arith}
use borrow.Author.Tests.{eqb-false, ltb-true, not-true, eq-eqb, ne_eqb}
use lib.Dec.{eqb, ltb}
use lib.ListN.{length}
use Rattle.lists.specs.Lists.{consecutive}
use Rattle.lists.proofs.Cases.{by_test, and_first, and_second}
use Rattle.lists.proofs.Lists.{consecutive_left}
use Rattle.closure.specs.Joined.{Edge, joins}
use Rattle.union_find.specs.Links.{root, united, Rooted}
use Rattle.union_find.proofs.LinkLaws.{Left, left_all, left_fewer, left_none, rooted_refl, rooted_then, united_inside}
use Rattle.pass_seam.specs.Walks.{number_at, differ_at, row_differs_to, layers_differ_to, has_place, join_at, edges_along}
use Rattle.pass_seam.specs.declared.Layer.{Layer}

-- ---- the number of a cell

-- A 16-bit number times a 32-bit one.
pub product_fits : (m n : ℕ) → m < 2 ^ 16 → n < 2 ^ 32 → m * n ≤ 65535 * 4294967295
product_fits m n h k = mul-le-mul {n₂ = 65535} {m₂ = 4294967295} (omega arith) (omega arith)

-- ---- the comparison

module _ (m : List ℕ) (l : Layer) (n : List ℕ) (r : Layer) where
  pub row_none : (v : ℕ) → row_differs_to m l n r v 0 ≡ false
  unfolding row_differs_to
  row_none v = refl

  pub row_more : (v u : ℕ) (d : Bool) → row_differs_to m l n r v u ≡ false → d ≡ differ_at m l n r u v → d ≡ false → row_differs_to m l n r v (u + 1) ≡ false
  unfolding row_differs_to
  row_more v u d p q e = simp (add-one, p, sym q ∙ e)

  pub rows_none : (columns : ℕ) → layers_differ_to m l n r columns 0 ≡ false
  unfolding layers_differ_to
  rows_none columns = refl

  pub rows_more : (columns v u : ℕ) → layers_differ_to m l n r columns v ≡ false → row_differs_to m l n r v u ≡ false → u ≤ columns → columns ≤ u → layers_differ_to m l n r columns (v + 1) ≡ false
  unfolding layers_differ_to
  rows_more columns v u p q h k =
      let e : u ≡ columns = omega arith in
      simp (add-one, p, rw e at q)

  pub rows_all : (columns rows v : ℕ) (d : Bool) → d ≡ false → layers_differ_to m l n r columns v ≡ false → v ≤ rows → rows ≤ v → d ≡ layers_differ_to m l n r columns rows
  rows_all columns rows v d e p h k =
      let q : v ≡ rows = omega arith in
      e ∙ sym (rw q at p)

  -- a cell that differs makes its row differ, every longer beginning of it, and the rows from there on
  row_spoilt : (v u i : ℕ) → differ_at m l n r u v ≡ true → row_differs_to m l n r v (suc (u + i)) ≡ true
  unfolding row_differs_to
  row_spoilt v u zero p = simp (add-zero, p, or-true)
  row_spoilt v u (suc i) p = rw add-suc (simp (row_spoilt v u i p))

  rows_spoilt : (columns v i : ℕ) → row_differs_to m l n r v columns ≡ true → layers_differ_to m l n r columns (suc (v + i)) ≡ true
  unfolding layers_differ_to
  rows_spoilt columns v zero p = simp (add-zero, p, or-true)
  rows_spoilt columns v (suc i) p = rw add-suc (simp (rows_spoilt columns v i p))

  pub spoilt : (columns rows v u : ℕ) (d : Bool) → d ≡ differ_at m l n r u v → d ≡ true → u < columns → v < rows → true ≡ layers_differ_to m l n r columns rows
  spoilt columns rows v u d q e h k =
      let i : suc (u + (columns - suc u)) ≡ columns = omega arith in
      let j : suc (v + (rows - suc v)) ≡ rows = omega arith in
      let s : row_differs_to m l n r v columns ≡ true = rw i at (row_spoilt v u (columns - suc u) (sym q ∙ e)) in
      sym (rw j at (rows_spoilt columns v (rows - suc v) s))

-- ---- the places of two numbers

module _ (from a size : ℕ) where
  pub has_low : has_place from a size ≡ true → 0 < a
  unfolding has_place
  has_low e = let z = eqb-false a 0 (not-true (eqb a 0) (and_first (not (eqb a 0)) (ltb (from + (a - 1)) size) e)) in omega arith

  pub has_below : has_place from a size ≡ true → from + (a - 1) < size
  unfolding has_place
  has_below e = ltb-true (from + (a - 1)) size (and_second (not (eqb a 0)) (ltb (from + (a - 1)) size) e)

-- ---- one cell

module _ (m : List ℕ) (l : Layer) (n : List ℕ) (r : Layer) (odd from to size v u : ℕ) where
  -- no edge
  pub edge_none : (ls : List ℕ) → join_at m l n r odd from to size v u ≡ [] → Rooted ls ls (joins (root ls) (join_at m l n r odd from to size v u))
  unfolding joins
  edge_none ls e = rw e (rooted_refl ls)

  pub edge_off : ¬ (u % 2 + v % 2 ≡ odd) → join_at m l n r odd from to size v u ≡ []
  unfolding join_at
  edge_off h = rw (ne_eqb (u % 2 + v % 2) odd h)

  -- the ways of the code: another parity, one of the numbers without a place, and both with one
  pub joined_off : (ls : List ℕ) → ¬ (u % 2 + v % 2 ≡ odd) → Rooted ls ls (joins (root ls) (join_at m l n r odd from to size v u))
  joined_off ls h = edge_none ls (edge_off h)

  pub joined_first : (ls : List ℕ) (a : ℕ) → a ≡ number_at m l u v → has_place from a size ≡ false → Rooted ls ls (joins (root ls) (join_at m l n r odd from to size v u))
  unfolding join_at
  joined_first ls a p h = edge_none ls (rw (← p, h) (by_test (eqb (u % 2 + v % 2) odd) (λ t. rw t) (λ t. rw t)))

  pub joined_second : (ls : List ℕ) (a b : ℕ) → a ≡ number_at m l u v → b ≡ number_at n r u v → has_place from a size ≡ true → has_place to b size ≡ false
      → Rooted ls ls (joins (root ls) (join_at m l n r odd from to size v u))
  unfolding join_at
  joined_second ls a b p q h k = edge_none ls (rw (← p, ← q, h, k) (by_test (eqb (u % 2 + v % 2) odd) (λ t. rw t) (λ t. rw t)))

  pub joined_there : (ls ms : List ℕ) (a b : ℕ) → length ls ≡ size → u % 2 + v % 2 ≡ odd → a ≡ number_at m l u v → b ≡ number_at n r u v
      → has_place from a size ≡ true → has_place to b size ≡ true → Rooted ls ms (united ls (from + (a - 1)) (to + (b - 1)))
      → Rooted ls ms (joins (root ls) (join_at m l n r odd from to size v u))
  unfolding joins join_at
  joined_there ls ms a b s o p q h k R =
      let i = has_below from a size h in
      let j = has_below to b size k in
      rw (← p, ← q, eq-eqb (u % 2 + v % 2) odd o, h, k) (rooted_then (rooted_refl ls) R (united_inside ls (from + (a - 1)) (to + (b - 1)) (omega arith) (omega arith)))

-- ---- a row, and row by row

pub walk_all : (f : ℕ → List Edge) (n : ℕ) (ls : List ℕ) → Left ls ls (edges_along f (consecutive 0 n)) (edges_along f (consecutive 0 (n - 0)))
walk_all f n ls = let z : n - 0 ≡ n = omega arith in rw z (left_all ls (edges_along f (consecutive 0 n)))

module _ (f : ℕ → List Edge) (i n : ℕ) where
  pub walk_next : i < n → edges_along f (consecutive i (n - i)) ≡ f i ++ edges_along f (consecutive (i + 1) (n - (i + 1)))
  unfolding edges_along
  walk_next h = rw (consecutive_left i n h, add-one)

  pub walk_end : n ≤ i → edges_along f (consecutive i (n - i)) ≡ []
  unfolding edges_along consecutive
  walk_end h = let z : n - i ≡ 0 = omega arith in rw z

  pub walk_more : {ls ms ns : List ℕ} {es : List Edge} → Left ls ms es (edges_along f (consecutive i (n - i))) → i < n → Rooted ms ns (joins (root ms) (f i)) → Left ls ns es (edges_along f (consecutive (i + 1) (n - (i + 1))))
  walk_more L h R = left_fewer (f i) (rw (walk_next h) at L) R

  pub walk_done : {ls ms : List ℕ} {es : List Edge} → Left ls ms es (edges_along f (consecutive i (n - i))) → n ≤ i → Rooted ls ms (joins (root ls) es)
  walk_done L h = left_none (rw (walk_end h) at L)
