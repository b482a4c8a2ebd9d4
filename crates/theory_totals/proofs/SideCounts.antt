-- How many readings a side of a face has: one for each of its cells, and none on the side of the outside.
-- Assumes nothing.
use mathlib.Core.Path.{◌≡◌, refl, sym, ap, ◌∙◌}
use mathlib.Core.Bool.{not, true≢false}
use mathlib.Core.Logic.{◌≢◌}
use mathlib.Core.List.{List, [], ◌∷◌, map, Memᴰ}
use Prim.Native.Nat.{ℕ, ◌+◌, ◌≤◌, ◌<◌}
use native.Mathlib.Omega.{arith}
use lib.Dec.{eqb}
use lib.ListN.{get_or, length, length-append, length-map}
use borrow.Author.Tests.{eqb-true, eqb-false, eq-eqb, ne_eqb}
use Rattle.lists.specs.Lists.{keep}
use Rattle.lists.proofs.Cases.{by_test}
use Rattle.cells.specs.declared.Triple.{Triple}
use Rattle.cells.specs.Grid.{upper_neighbours}
use Rattle.cells.specs.Row.{occurrences, row, occupied, active, numbers_at}
use Rattle.cells.proofs.RowFacts.{row_once}
use Rattle.labels.specs.Number.{labels}
use Rattle.labels.specs.Components.{component}
use Rattle.labels.proofs.ComponentLaws.{Belongs, component_out}
use Rattle.labels.proofs.CountLaws.{member_active, component_row_lem}
use Rattle.strains.specs.declared.Reading.{Reading}
use Rattle.strain_calls.specs.Adding.{gathered}
use Rattle.theory_totals.specs.Book.{on_side, side_readings}
use Rattle.theory_totals.specs.Statement.{BordersOutside}
use Rattle.theory_totals.proofs.SideLaws.{is_on}

-- ---- one cell

module _ (m : List ℕ) where
  none_on : (qs : List ℕ) → keep (λ q. is_on 0 (get_or m q 0)) qs ≡ []
  none_on [] = refl
  none_on (q ∷ qs) = by_test (eqb (get_or m q 0) 0) (λ z. rw z (none_on qs)) (λ z. rw z (none_on qs))

  so_often : (x : ℕ) → x ≢ 0 → (qs : List ℕ) → length (keep (λ q. is_on x (get_or m q 0)) qs) ≡ occurrences x (numbers_at m qs)
  so_often x d [] = refl
  so_often x d (q ∷ qs) =
      by_test (eqb (get_or m q 0) 0)
      (λ z. rw (z, ne_eqb (get_or m q 0) x (λ e. d (sym e ∙ eqb-true (get_or m q 0) 0 z))) (so_often x d qs))
      (λ z. by_test (eqb (get_or m q 0) x) (λ t. rw (z, t) (omega (arith, so_often x d qs))) (λ t. rw (z, t) (so_often x d qs)))

module _ (e : Triple) (m : List ℕ) (side t : ℕ) (hs : side ≤ 1) where
  on_none : get_or (row e m t) side 0 ≡ 0 → on_side e m side t ≡ []
  unfolding on_side
  on_none z = rw z (none_on m (upper_neighbours e t))

  on_one : get_or (row e m t) side 0 ≢ 0 → length (on_side e m side t) ≡ 1
  unfolding on_side row
  on_one d = so_often m (get_or (row e m t) side 0) d (upper_neighbours e t) ∙ row_once (numbers_at m (upper_neighbours e t)) side (omega arith) d

  on_most : length (on_side e m side t) ≤ 1
  on_most =
      by_test (eqb (get_or (row e m t) side 0) 0)
      (λ z. omega (arith, ap length (on_none (eqb-true (get_or (row e m t) side 0) 0 z))))
      (λ z. omega (arith, on_one (eqb-false (get_or (row e m t) side 0) 0 z)))

-- ---- all cells of a face

module _ (e : Triple) (m : List ℕ) (f : ℕ → ℕ → Reading) (side : ℕ) (hs : side ≤ 1) where
  abbrev here : ℕ → List Reading
  here t = map (f t) (on_side e m side t)

  one_more : (t : ℕ) (ts : List ℕ) → length (gathered here (t ∷ ts)) ≡ length (on_side e m side t) + length (gathered here ts)
  unfolding gathered
  one_more t ts = length-append (here t) (gathered here ts) ∙ ap (λ (n : ℕ). n + length (gathered here ts)) (length-map (on_side e m side t) (f t))

  none_here : length (gathered here []) ≡ 0
  unfolding gathered
  none_here = refl

  cells_few : (ts : List ℕ) → length (gathered here ts) ≤ length ts
  cells_few [] = omega (arith, none_here)
  cells_few (t ∷ ts) = omega (arith, one_more t ts, on_most e m side t hs, cells_few ts)

  cells_one : (ts : List ℕ) → ((t : ℕ) → Memᴰ t ts → get_or (row e m t) side 0 ≢ 0) → length (gathered here ts) ≡ length ts
  cells_one [] d = none_here
  cells_one (t ∷ ts) d = omega (arith, one_more t ts, on_one e m side t hs (d t (Memᴰ.head refl)), cells_one ts (λ q i. d q (Memᴰ.tail i)))

  cells_none : (ts : List ℕ) → ((t : ℕ) → Memᴰ t ts → get_or (row e m t) side 0 ≡ 0) → gathered here ts ≡ []
  unfolding gathered
  cells_none [] z = refl
  cells_none (t ∷ ts) z = rw (on_none e m side t hs (z t (Memᴰ.head refl))) (cells_none ts (λ q i. z q (Memᴰ.tail i)))

  -- A side of face n of any map has at most one reading for each cell of the face.
  pub side_few : (n : ℕ) → length (side_readings e m f n side) ≤ length (component e m 2 n)
  unfolding side_readings
  side_few n = cells_few (component e m 2 n)

-- ---- a labelled volume

module _ (e : Triple) (codes : List ℕ) (f : ℕ → ℕ → Reading) (n : ℕ) (hn : 0 < n) where
  abbrev m : List ℕ
  m = labels e codes

  first_entry : (t : ℕ) → Belongs e m 2 n t → get_or (row e m t) 0 0 ≢ 0
  unfolding active occupied
  first_entry t c z = true≢false (sym (member_active e codes (omega arith) hn c) ∙ ap not (eq-eqb (get_or (row e m t) 0 0) 0 z))

  -- "The outside is the higher side of a face": the lower side has one reading for each cell ..
  pub lower_whole : length (side_readings e m f n 0) ≡ length (component e m 2 n)
  unfolding side_readings
  lower_whole = cells_one e m f 0 (omega arith) (component e m 2 n) (λ t i. first_entry t (component_out e m 2 n i))

  -- .. the higher side too, where it is not the outside ..
  pub higher_whole : (BordersOutside e m n → ⊥) → length (side_readings e m f n 1) ≡ length (component e m 2 n)
  unfolding side_readings
  higher_whole d = cells_one e m f 1 (omega arith) (component e m 2 n) (λ t i z. d (ap (λ (r : List ℕ). get_or r 1 0) (sym (component_row_lem e codes (omega arith) hn t i)) ∙ z))

  -- .. and the outside has none.
  pub higher_none : BordersOutside e m n → side_readings e m f n 1 ≡ []
  unfolding side_readings
  higher_none z = cells_none e m f 1 (omega arith) (component e m 2 n) (λ t i. ap (λ (r : List ℕ). get_or r 1 0) (component_row_lem e codes (omega arith) hn t i) ∙ z)
