-- What the joining pass has left to join, turn by turn: among six cells, along a line, and line by line.
-- Assumes nothing.
use mathlib.Core.Path.{◌≡◌, refl, sym, ◌∙◌}
use mathlib.Core.Bool.{Bool, true, false, cond, not, ◌&&◌}
use mathlib.Core.List.{List, [], ◌∷◌, ◌++◌, Memᴰ, map, append_assoc}
use Prim.Native.Nat.{ℕ, zero, suc, ◌+◌, ◌-◌, ◌*◌, ◌%◌, ◌^◌, ◌≤◌, ◌<◌}
use native.Mathlib.Numerals.{add-one}
use native.Mathlib.Omega.{arith}
use lib.Dec.{eqb-suc-zero, eqb-suc-suc}
use lib.ListN.{length, get_or, drop, get_or-map, length-map}
use lib.Seq.{drop-cons}
use borrow.Author.Tests.{ne_eqb, not-true, not-false}
use Rattle.lists.specs.Lists.{keep}
use Rattle.lists.proofs.Lists.{keep_append}
use Rattle.closure.specs.Joined.{Edge, edge, joins}
use Rattle.union_find.specs.Links.{root, Rooted}
use Rattle.union_find.proofs.LinkLaws.{Left, rooted_refl}
use Rattle.cells.specs.declared.Triple.{Triple}
use Rattle.cells.specs.Extents.{Sized}
use Rattle.cells.specs.Grid.{sides, cells, order, upper_neighbours}
use Rattle.cells.specs.Row.{row, active, occupied, same_row}
use Rattle.cells.proofs.ExtentLaws.{cells_high}
use Rattle.labels.specs.Number.{pairs, alike, edges_at, order_below}
use Rattle.lines.specs.Lines.{odds, around, line_y, line_z}
use Rattle.lines.proofs.LineLaws.{up_around, flank_at, above_read, Tests, order_tests}
use Rattle.pass_join.specs.declared.Neighbour.{Neighbour}
use Rattle.pass_join.specs.Around.{positions, rows_of}
use Rattle.pass_join.specs.JoinTrays.{Trays, alike_to, alike_pairs}

-- Links that a loop has changed still fit the block.
pub trays_kept : {e : Triple} {m ls ms : List ℕ} {es ds : List Edge} → Trays e m ls → Left ls ms es ds → Trays e m ms
trays_kept t L = record { sized = t.sized; whole = t.whole; room = L.size ∙ t.room }

-- A position in the grid of a block fits.
pub cell_fits : {e : Triple} {p : ℕ} → Sized 64 e → p < cells e → p < 2 ^ 32
cell_fits s h = omega (arith, cells_high s)

-- ---- the cells around another one

abbrev pub nobody : Neighbour
nobody = record { at = 0; row = [] }

pub position_of : (ns : List Neighbour) (i : ℕ) → get_or (positions ns) i 0 ≡ (get_or ns i nobody).at
position_of ns i = get_or-map (λ n. n.at) ns i nobody

pub row_of_cell : (ns : List Neighbour) (i : ℕ) → get_or (rows_of ns) i [] ≡ (get_or ns i nobody).row
row_of_cell ns i = get_or-map (λ n. n.row) ns i nobody

pub length-positions : (ns : List Neighbour) → length (positions ns) ≡ length ns
length-positions ns = simp length-map

pub length-rows_of : (ns : List Neighbour) → length (rows_of ns) ≡ length ns
length-rows_of ns = simp length-map

-- A row without an entry joins nothing.
pub to_none : (p : ℕ) (r : List ℕ) → occupied r ≡ false → (qs : List ℕ) (rs : List (List ℕ)) → alike_to p r qs rs ≡ []
unfolding alike_to
to_none p r t [] rs = refl
to_none p r t (q ∷ qs) [] = refl
to_none p r t (q ∷ qs) (s ∷ rs) = rw t (to_none p r t qs rs)

-- The next of the later cells.
pub to_next : (p : ℕ) (r qs : List ℕ) (rs : List (List ℕ)) (k : ℕ) → k < length qs → k < length rs → alike_to p r (drop k qs) (drop k rs)
    ≡ cond (occupied r && same_row r (get_or rs k [])) (edge p (get_or qs k 0) ∷ alike_to p r (drop (k + 1) qs) (drop (k + 1) rs)) (alike_to p r (drop (k + 1) qs) (drop (k + 1) rs))
unfolding alike_to
to_next p r qs rs k h i = rw (add-one, drop-cons qs k 0 h, drop-cons rs k [] i)

-- The next cell, with the later ones.
pub pairs_next : (ps : List ℕ) (rs : List (List ℕ)) (i : ℕ) → i < length ps → i < length rs → alike_pairs (drop i ps) (drop i rs)
    ≡ alike_to (get_or ps i 0) (get_or rs i []) (drop (suc i) ps) (drop (suc i) rs) ++ alike_pairs (drop (i + 1) ps) (drop (i + 1) rs)
unfolding alike_pairs
pairs_next ps rs i h k = rw (add-one, drop-cons ps i 0 h, drop-cons rs i [] k)

-- Rows without an entry join nothing.
abbrev pub Blank : List (List ℕ) → Type 0
Blank [] = Unit {0}
Blank (v ∷ vs) = (occupied v ≡ false) × Blank vs

pairs_blank : (us : List ℕ) (vs : List (List ℕ)) → Blank vs → alike_pairs us vs ≡ []
unfolding alike_pairs
pairs_blank [] vs b = refl
pairs_blank (u ∷ us) [] b = refl
pairs_blank (u ∷ us) (v ∷ vs) b = rw (to_none u v b.0 us vs) (pairs_blank us vs b.1)

-- What the test for a blank row tells.
pub blank_row : {b : Bool} (r : List ℕ) → b ≡ not (occupied r) → b ≡ true → occupied r ≡ false
blank_row r e t = not-true (occupied r) (sym e ∙ t)

pub filled_row : {b : Bool} (r : List ℕ) → b ≡ not (occupied r) → b ≡ false → occupied r ≡ true
filled_row r e t = not-false (occupied r) (sym e ∙ t)

module _ (e : Triple) (m : List ℕ) where
  to_alike : (p : ℕ) (qs : List ℕ) → alike_to p (row e m p) qs (map (row e m) qs) ≡ keep (alike e m) (map (edge p) qs)
  unfolding alike_to alike active
  to_alike p [] = refl
  to_alike p (q ∷ qs) = rw (to_alike p qs)

  pairs_alike : (ps : List ℕ) → alike_pairs ps (map (row e m) ps) ≡ keep (alike e m) (pairs ps)
  unfolding alike_pairs pairs
  pairs_alike [] = refl
  pairs_alike (p ∷ ps) = rw (to_alike p ps, pairs_alike ps) (sym (keep_append (alike e m) (map (edge p) ps) (pairs ps)))

  -- The cells around t, joined.
  pub joined_around : {ls ms ps : List ℕ} {rs : List (List ℕ)} (t : ℕ) (ss : List ℕ) → odds e t ≡ ss → ps ≡ around t ss → rs ≡ map (row e m) (around t ss)
      → Rooted ls ms (joins (root ls) (alike_pairs ps rs)) → Rooted ls ms (joins (root ls) (keep (alike e m) (pairs (upper_neighbours e t))))
  joined_around t ss o h q R = rw (up_around e t, o, ← pairs_alike (around t ss), ← q, ← h) R

  -- Where no cell around t is active, nothing is joined.
  pub idle_around : {ls : List ℕ} {rs : List (List ℕ)} (t : ℕ) (ss : List ℕ) → odds e t ≡ ss → rs ≡ map (row e m) (around t ss) → Blank rs
      → Rooted ls ls (joins (root ls) (keep (alike e m) (pairs (upper_neighbours e t))))
  unfolding joins
  idle_around {ls} {rs} t ss o q b =
      let none : keep (alike e m) (pairs (around t ss)) ≡ [] = sym (pairs_alike (around t ss)) ∙ rw (← q) (pairs_blank (around t ss) rs b) in
      rw (up_around e t, o, none) (rooted_refl ls)

-- The position one stride s up from t fits.
module _ {e : Triple} {m ls : List ℕ} {t s : ℕ} {ss : List ℕ} (trays : Trays e m ls) (h : t < cells e) (o : odds e t ≡ ss) (i : Memᴰ s ss) where
  pub above_sum : t + s < 2 ^ 64
  above_sum = omega (arith, above_read e h o i refl, cells_high trays.sized)

-- The cells there have rows that are read by the strides ss.
pub record Near (e : Triple) (m : List ℕ) (t s : ℕ) (ss : List ℕ) : Type 0 where
  pub down : (length m ≡ cells e) × (t - s < cells e) × (odds e (t - s) ≡ ss)
  pub up : (length m ≡ cells e) × (t + s < cells e) × (odds e (t + s) ≡ ss)

pub near : {e : Triple} {m ls : List ℕ} {t : ℕ} → Trays e m ls → t < cells e → (pre : List ℕ) (s : ℕ) (post : List ℕ) → odds e t ≡ pre ++ s ∷ post → Near e m t s (pre ++ post)
near {e} {m} {ls} {t} trays h pre s post o = let f = flank_at e t h pre s post o in record { down = (trays.whole, omega arith, f.below); up = (trays.whole, f.high, f.above) }

-- ---- the cells of a line

-- The test for the order below j, along a line.
pub below_tests : (e : Triple) (j l : ℕ) → j ≤ 2 → Tests (order_below e j) (l * (sides e).x) (sides e).x (4 - j) (line_y e l + line_z e l)
unfolding order_below line_y line_z
below_tests e zero l h = record { at = λ x k. eqb-suc-zero (order e (l * (sides e).x + x)) ∙ sym (ne_eqb (4 - 0) (x % 2 + (line_y e l + line_z e l)) (λ c. omega arith)) }
below_tests e (suc j) l h =
    let s : 4 - suc j ≡ 3 - j = omega arith in
    record { at = λ x k. eqb-suc-suc (order e (l * (sides e).x + x)) j ∙ rw s ((order_tests e j l (omega arith)).at x k) }

-- The edges at the cells of two lists.
pub edges_append : (e : Triple) (m ts us : List ℕ) → edges_at e m (ts ++ us) ≡ edges_at e m ts ++ edges_at e m us
unfolding edges_at
edges_append e m [] us = refl
edges_append e m (t ∷ ts) us = rw (edges_append e m ts us) (sym (append_assoc (keep (alike e m) (pairs (upper_neighbours e t))) (edges_at e m ts) (edges_at e m us)))
