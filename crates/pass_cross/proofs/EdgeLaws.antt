-- The edges among six numbers with their rows: turn by turn, and as those between the cells around a cell.
-- Assumes nothing.
use mathlib.Core.Bool.{Bool, true, false, cond}
use mathlib.Core.List.{List, [], ◌∷◌, map, flat_map}
use mathlib.Core.Path.{◌≡◌, refl, sym, ◌∙◌}
use Prim.Native.Nat.{ℕ, zero, suc, ◌+◌, ◌-◌, ◌≤◌, ◌<◌}
use native.Mathlib.Omega.{arith}
use native.Mathlib.Numerals.{add-one}
use lib.Dec.{eqb}
use lib.ListN.{length, get_or, drop, drop_of_length-le}
use lib.Seq.{drop-cons}
use borrow.Author.Tests.{ne_eqb, eqb-true}
use Rattle.lists.proofs.Cases.{by_test}
use Rattle.closure.specs.Joined.{Edge, edge, joins}
use Rattle.union_find.specs.Links.{root, united, Rooted}
use Rattle.union_find.proofs.LinkLaws.{Left, left_all, left_fewer, left_united, left_none}
use Rattle.cells.specs.declared.Triple.{Triple}
use Rattle.cells.specs.Row.{same_row, pad_to, numbers_at}
use Rattle.labels.specs.Number.{pairs}
use Rattle.pass_cross.specs.CrossEdges.{place_of, edge_if, cross_pair}
use Rattle.lists.proofs.Flat.{flat_append}
use Rattle.pass_cross.specs.Inner.{active_row, cell_row, cell_rows, pad_rows, count_active, edges_to, edges_among}

-- ---- two numbers

module _ (from x y : ℕ) (r s : List ℕ) where
  if_left : x ≡ 0 → edge_if from x y r s ≡ []
  unfolding edge_if
  if_left e = rw e

  if_right : y ≡ 0 → edge_if from x y r s ≡ []
  unfolding edge_if
  if_right e = by_test (eqb x 0) (λ t. rw t) (λ t. rw (t, e))

  if_same : ¬ (x ≡ 0) → ¬ (y ≡ 0) → edge_if from x y r s ≡ cond (same_row r s) (edge (from + (x - 1)) (from + (y - 1)) ∷ []) []
  unfolding edge_if place_of
  if_same h k = rw (ne_eqb x 0 h, ne_eqb y 0 k)

  module _ (ls : List ℕ) where
    -- 0 joins nothing, nor do rows that differ.
    pub idle_left : x ≡ 0 → Rooted ls ls (joins (root ls) (edge_if from x y r s))
    idle_left e = rw (if_left e) (left_none (left_all ls []))

    pub idle_right : y ≡ 0 → Rooted ls ls (joins (root ls) (edge_if from x y r s))
    idle_right e = rw (if_right e) (left_none (left_all ls []))

    pub idle_rows : (b : Bool) → ¬ (x ≡ 0) → ¬ (y ≡ 0) → b ≡ same_row r s → b ≡ false → Rooted ls ls (joins (root ls) (edge_if from x y r s))
    idle_rows b h k q e = rw (if_same h k, sym q ∙ e) (left_none (left_all ls []))

    -- Equal rows join.
    pub joined_two : (ms : List ℕ) (b : Bool) → ¬ (x ≡ 0) → ¬ (y ≡ 0) → b ≡ same_row r s → b ≡ true → from + x ≤ length ls → from + y ≤ length ls
        → Rooted ls ms (united ls (from + (x - 1)) (from + (y - 1))) → Rooted ls ms (joins (root ls) (edge_if from x y r s))
    joined_two ms b h k q e lx ly R = rw (if_same h k, sym q ∙ e) (left_none (left_united (left_all ls _) (omega arith) (omega arith) R))

-- ---- the next number

module _ (from : ℕ) (ys : List ℕ) (rs : List (List ℕ)) (ls ms : List ℕ) (es : List Edge) (k : ℕ) (many : length ys ≡ 6) (wide : length rs ≡ 6) where
  pub to_turn : (x : ℕ) (r ns : List ℕ) → Left ls ms es (edges_to from x r (drop k ys) (drop k rs)) → k < 6 → Rooted ms ns (joins (root ms) (edge_if from x (get_or ys k 0) r (get_or rs k [])))
      → Left ls ns es (edges_to from x r (drop (k + 1) ys) (drop (k + 1) rs))
  unfolding edges_to
  to_turn x r ns L h R = rw add-one (left_fewer _ (rw (drop-cons ys k 0 (omega arith), drop-cons rs k [] (omega arith)) at L) R)

  pub to_end : (x : ℕ) (r : List ℕ) → Left ls ms es (edges_to from x r (drop k ys) (drop k rs)) → 6 ≤ k → Rooted ls ms (joins (root ls) es)
  unfolding edges_to
  to_end x r L h = left_none (rw (drop_of_length-le ys {i = k} (omega arith)) at L)

  pub among_turn : (ns : List ℕ) → Left ls ms es (edges_among from (drop k ys) (drop k rs)) → k < 6
      → Rooted ms ns (joins (root ms) (edges_to from (get_or ys k 0) (get_or rs k []) (drop (suc k) ys) (drop (suc k) rs)))
      → Left ls ns es (edges_among from (drop (k + 1) ys) (drop (k + 1) rs))
  unfolding edges_among
  among_turn ns L h R = rw add-one (left_fewer _ (rw (drop-cons ys k 0 (omega arith), drop-cons rs k [] (omega arith)) at L) R)

  pub among_end : Left ls ms es (edges_among from (drop k ys) (drop k rs)) → 6 ≤ k → Rooted ls ms (joins (root ls) es)
  unfolding edges_among
  among_end L h = left_none (rw (drop_of_length-le ys {i = k} (omega arith)) at L)

-- ---- fewer than two numbers

to_none : (from x : ℕ) (r : List ℕ) → x ≡ 0 → (ys : List ℕ) (rs : List (List ℕ)) → edges_to from x r ys rs ≡ []
unfolding edges_to
to_none from x r e [] rs = refl
to_none from x r e (y ∷ ys) [] = refl
to_none from x r e (y ∷ ys) (s ∷ rs) = rw (if_left from x y r s e) (to_none from x r e ys rs)

to_idle : (from x : ℕ) (r ys : List ℕ) (rs : List (List ℕ)) → count_active ys ≡ 0 → edges_to from x r ys rs ≡ []
unfolding edges_to
to_idle from x r [] rs h = refl
to_idle from x r (y ∷ ys) [] h = refl
to_idle from x r (y ∷ ys) (s ∷ rs) h =
    by_test (eqb y 0)
    (λ t. rw (if_right from x y r s (eqb-true y 0 t)) (to_idle from x r ys rs (omega (arith, h))))
    (λ t. absurd (omega (arith, rw t at h)))

-- They have no edge among them.
pub few_idle : (from : ℕ) (xs : List ℕ) (rs : List (List ℕ)) → count_active xs < 2 → edges_among from xs rs ≡ []
unfolding edges_among
few_idle from [] rs h = refl
few_idle from (x ∷ xs) [] h = refl
few_idle from (x ∷ xs) (r ∷ rs) h =
    by_test (eqb x 0)
    (λ t. rw (to_none from x r (eqb-true x 0 t) xs rs) (few_idle from xs rs (omega (arith, h))))
    (λ t. let k : count_active xs ≡ 0 = omega (arith, rw t at h) in rw (to_idle from x r xs rs k) (few_idle from xs rs (omega arith)))

-- ---- the cells around a cell

module _ (e : Triple) (m : List ℕ) (f : ℕ → ℕ) (start from : ℕ) where
  -- a row is read only where the number is not 0
  if_cells : (p q : ℕ) → edge_if from (get_or m p 0) (get_or m q 0) (cell_row e m f start p) (cell_row e m f start q) ≡ cross_pair e m f start from (edge p q)
  unfolding edge_if cross_pair cell_row active_row
  if_cells p q = by_test (eqb (get_or m p 0) 0) (λ t. rw t) (λ t. by_test (eqb (get_or m q 0) 0) (λ s. rw (t, s)) (λ s. rw (t, s)))

  pad_idle : (n : ℕ) → count_active (pad_to n []) ≡ 0
  pad_idle zero = refl
  pad_idle (suc n) = omega (arith, pad_idle n)

  to_cells : (n p : ℕ) (us : List ℕ) → length us ≤ n
      → edges_to from (get_or m p 0) (cell_row e m f start p) (pad_to n (numbers_at m us)) (pad_rows n (cell_rows e m f start us)) ≡ flat_map (cross_pair e m f start from) (map (edge p) us)
  unfolding edges_to cell_rows flat_map
  to_cells n p [] h = to_idle from (get_or m p 0) (cell_row e m f start p) (pad_to n []) (pad_rows n []) (pad_idle n)
  to_cells zero p (q ∷ us) h = absurd (omega arith)
  to_cells (suc n) p (q ∷ us) h = rw (if_cells p q, to_cells n p us (omega arith))

  -- Numbers and rows in six places have the edges between the cells.
  pub among_cells : (n : ℕ) (us : List ℕ) → length us ≤ n
      → edges_among from (pad_to n (numbers_at m us)) (pad_rows n (cell_rows e m f start us)) ≡ flat_map (cross_pair e m f start from) (pairs us)
  unfolding edges_among cell_rows flat_map pairs
  among_cells n [] h = few_idle from (pad_to n []) (pad_rows n []) (omega (arith, pad_idle n))
  among_cells zero (p ∷ us) h = absurd (omega arith)
  among_cells (suc n) (p ∷ us) h = rw (to_cells n p us (omega arith), among_cells n us (omega arith)) (sym (flat_append (cross_pair e m f start from) (map (edge p) us) (pairs us)))
