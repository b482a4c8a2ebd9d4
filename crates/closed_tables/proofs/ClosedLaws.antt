-- The closed tables are what the joiner's `NumberedKind` states.
-- Assumes nothing.
use mathlib.Core.Path.{◌≡◌, sym, ap, ◌∙◌}
use mathlib.Core.List.{List}
use Prim.Native.Nat.{ℕ, suc, ◌+◌, ◌*◌, ◌/◌, ◌%◌, ◌≤◌, ◌<◌}
use native.Mathlib.Omega.{arith}
use lib.ListN.{get_or, length, take}
use Rattle.lists.specs.Lists.{tabulate, overlay}
use Rattle.lists.proofs.Lists.{get_or_tabulate}
use Rattle.lists.proofs.Overlay.{front_at, overlay_same, overlay_front}
use Rattle.joiner.specs.Job.{Kind, Face, Curve, Point, width, Tables, first_at}
use Rattle.joiner.specs.Outcomes.{head_of, row_at, final_face, row_final}
use Rattle.closed_tables.specs.ClosedTables.{position_at, entry_at, face_in, ascending_four, curve_row}

-- ---- rows

row_in : (κ : Kind) (total i : ℕ) → i < width κ * total → (i / width κ < total) × (i % width κ < width κ)
row_in Face total i h = omega arith
row_in Curve total i h = omega arith
row_in Point total i h = omega arith

entry_told : (t : Tables) (κ : Kind) {rows : List ℕ} → t.rows κ ≡ rows → (x i : ℕ) → i < width κ → entry_at rows (width κ) x i ≡ get_or (row_at t κ x) i 0
unfolding entry_at row_at
entry_told t κ r x i h = rw (← r) (sym (get_or_tabulate (width κ) (λ j. get_or (t.rows κ) (width κ * x + j) 0) i h))

curve_told : (t : Tables) {rows numbers : List ℕ} → t.rows Curve ≡ rows → t.numbers Face ≡ numbers → (x : ℕ) → curve_row numbers rows x ≡ row_final t Curve x
unfolding curve_row ascending_four row_final row_at final_face face_in entry_at
curve_told t r f x = rw (← r, ← f)

-- ---- the tables of one kind, of which the component with number i + 1 has its first one at get_or places i

module _ (t : Tables) (κ : Kind) (n total : ℕ) (places : List ℕ) (firsts_at : take total places ≡ tabulate total (λ i. head_of t κ n (suc i))) where
  head_is : (i : ℕ) → i < total → get_or places i 0 ≡ head_of t κ n (suc i)
  head_is = front_at places total (λ i. head_of t κ n (suc i)) firsts_at

  -- what `write_firsts` leaves
  pub closed_firsts : {keys : List ℕ} → t.keys κ ≡ keys → (firsts' : List ℕ) → firsts' ≡ overlay places 0 (λ i. position_at keys (get_or places i 0)) total
      → firsts' ≡ overlay places 0 (λ i. first_at t κ (head_of t κ n (suc i))) total
  unfolding position_at first_at
  closed_firsts k firsts' e = e ∙ overlay_same places 0 _ _ total (λ i h. rw (← k, head_is i h))

  pub closed_firsts_front : {keys : List ℕ} → t.keys κ ≡ keys → total ≤ length places → (firsts' : List ℕ) → firsts' ≡ overlay places 0 (λ i. position_at keys (get_or places i 0)) total
      → take total firsts' ≡ tabulate total (λ i. first_at t κ (head_of t κ n (suc i)))
  closed_firsts_front k h firsts' e = ap (take total) (closed_firsts k firsts' e) ∙ overlay_front places (λ i. first_at t κ (head_of t κ n (suc i))) total h

  -- what is written of all rows, where it is right of each
  rows_told : (f : ℕ → ℕ → ℕ) → ((x i : ℕ) → i < width κ → f x i ≡ get_or (row_final t κ x) i 0) → (xs listed' : List ℕ)
      → listed' ≡ overlay xs 0 (λ i. f (get_or places (i / width κ) 0) (i % width κ)) (width κ * total)
      → listed' ≡ overlay xs 0 (λ i. get_or (row_final t κ (head_of t κ n (suc (i / width κ)))) (i % width κ) 0) (width κ * total)
  rows_told f same xs listed' e =
      e ∙ overlay_same xs 0 _ _ (width κ * total)
      (λ i h. let r = row_in κ total i h in same (get_or places (i / width κ) 0) (i % width κ) r.1 ∙ ap (λ (x : ℕ). get_or (row_final t κ x) (i % width κ) 0) (head_is (i / width κ) r.0))

module _ (t : Tables) (n total : ℕ) (places : List ℕ) where
  -- what `copy_rows` leaves of a kind whose rows stay as they are: faces and points
  pub closed_copied : (κ : Kind) → ((x : ℕ) → row_final t κ x ≡ row_at t κ x) → take total places ≡ tabulate total (λ i. head_of t κ n (suc i)) → {rows : List ℕ} → t.rows κ ≡ rows
      → (xs listed' : List ℕ) → listed' ≡ overlay xs 0 (λ i. entry_at rows (width κ) (get_or places (i / width κ) 0) (i % width κ)) (width κ * total)
      → listed' ≡ overlay xs 0 (λ i. get_or (row_final t κ (head_of t κ n (suc (i / width κ)))) (i % width κ) 0) (width κ * total)
  closed_copied κ same p {rows} r =
      rows_told t κ n total places p (entry_at rows (width κ)) (λ x i h. entry_told t κ r x i h ∙ ap (λ (l : List ℕ). get_or l i 0) (sym (same x)))

  -- what `curve_rows` leaves
  pub closed_curves : take total places ≡ tabulate total (λ i. head_of t Curve n (suc i)) → {rows numbers : List ℕ} → t.rows Curve ≡ rows → t.numbers Face ≡ numbers → (xs listed' : List ℕ)
      → listed' ≡ overlay xs 0 (λ i. get_or (curve_row numbers rows (get_or places (i / 4) 0)) (i % 4) 0) (4 * total)
      → listed' ≡ overlay xs 0 (λ i. get_or (row_final t Curve (head_of t Curve n (suc (i / 4)))) (i % 4) 0) (4 * total)
  closed_curves p {rows} {numbers} r f = rows_told t Curve n total places p (λ x i. get_or (curve_row numbers rows x) i 0) (λ x i _. ap (λ (l : List ℕ). get_or l i 0) (curve_told t r f x))

-- The front of the rows, as `NumberedKind` has it.
pub closed_front : (t : Tables) (κ : Kind) (n total : ℕ) (xs listed' : List ℕ) → width κ * total ≤ length xs
    → listed' ≡ overlay xs 0 (λ i. get_or (row_final t κ (head_of t κ n (suc (i / width κ)))) (i % width κ) 0) (width κ * total)
    → take (width κ * total) listed' ≡ tabulate (width κ * total) (λ i. get_or (row_final t κ (head_of t κ n (suc (i / width κ)))) (i % width κ) 0)
closed_front t κ n total xs listed' h e = ap (take (width κ * total)) e ∙ overlay_front xs _ (width κ * total) h
