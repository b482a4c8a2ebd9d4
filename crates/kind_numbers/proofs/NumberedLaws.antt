-- What the passes leave is the record, and the record is the joiner's `NumberedKind`.
-- Assumes nothing.
use mathlib.Core.Path.{◌≡◌, refl, ap, ◌∙◌}
use mathlib.Core.List.{List}
use Prim.Native.Nat.{ℕ, suc, ◌*◌, ◌/◌, ◌%◌, ◌≤◌}
use native.Mathlib.Nat.{le_refl, mul-le-mul}
use native.Mathlib.Omega.{arith}
use lib.ListN.{get_or, length, take}
use Rattle.lists.specs.Lists.{tabulate, overlay}
use Rattle.lists.proofs.Overlay.{length-overlay, overlay_front}
use Rattle.joiner.specs.Job.{Kind, Face, Curve, width, Tables, State}
use Rattle.joiner.specs.Outcomes.{class_of, head_of, row_final, NumberedKind}
use Rattle.joiner.proofs.LaterKeeps.{heads_most}
use Rattle.ranking.specs.Ranking.{AnyKind, Ranked}
use Rattle.ranking.proofs.KindLaws.{table_of}
use Rattle.closed_tables.specs.ClosedTables.{position_at, entry_at, curve_row}
use Rattle.closed_tables.proofs.ClosedLaws.{closed_firsts_front, closed_copied, closed_curves, closed_front}
use Rattle.kind_numbers.specs.Numbered.{Numbered, AnyCopied, AnyCurves}

-- The record over states.
pub numbered_kind : (s t : State) (κ : Kind) (n : ℕ)
    → Numbered t.tables κ n (t.job.numbered κ) (s.tables.numbers κ) (t.tables.numbers κ) (s.tables.firsts κ) (t.tables.firsts κ) (s.tables.listed κ) (t.tables.listed κ)
    → NumberedKind s t κ n
numbered_kind s t κ n N = record {
  total = N.total_is;
  numbers = N.ranks;
  firsts = N.firsts_are;
  listed = N.listed_are;
  firsts_long = N.firsts_long;
  listed_long = N.listed_long;
}

-- ---- lengths

times_low : (w : ℕ) {a b : ℕ} → a ≤ b → w * a ≤ w * b
times_low w h = mul-le-mul (le_refl w) h

-- There are no more numbers than components, so all rows have room.
module _ (links keys numbers numbers' firsts places : List ℕ) (n total : ℕ) (R : AnyKind links keys (λ t κ. Ranked t κ n total numbers numbers' firsts places)) where
  ranked_one : Ranked (table_of links keys) Face n total numbers numbers' firsts places
  unfolding table_of class_of
  ranked_one = R (table_of links keys) Face refl (λ x. refl)

  pub rows_room : (w : ℕ) {listed spare : ℕ} → spare ≡ listed → n ≤ length firsts → w * n ≤ listed → (total ≤ length places) × (w * total ≤ spare)
  rows_room w same fit room =
      let few : total ≤ n = omega (arith, ranked_one.total, heads_most (table_of links keys) Face n) in
      (omega (arith, ap length ranked_one.places, length-overlay firsts 0 (λ i. head_of (table_of links keys) Face n (suc i)) total), omega (arith, times_low w few))

-- ---- what the passes leave

module _ (t : Tables) (κ : Kind) (n total : ℕ) (keys numbers numbers' firsts places : List ℕ) (K : t.keys κ ≡ keys) (R : Ranked t κ n total numbers numbers' firsts places)
    (fit : n ≤ length firsts) where
  few : total ≤ n
  few = omega (arith, R.total, heads_most t κ n)

  pub places_front : take total places ≡ tabulate total (λ i. head_of t κ n (suc i))
  places_front = ap (take total) R.places ∙ overlay_front firsts (λ i. head_of t κ n (suc i)) total (omega (arith, few))

  places_long : length places ≡ length firsts
  places_long = ap length R.places ∙ length-overlay firsts 0 (λ i. head_of t κ n (suc i)) total

  -- `spare` is the table of rows after the ranking
  numbered_of_lem : (firsts' : List ℕ) → firsts' ≡ overlay places 0 (λ i. position_at keys (get_or places i 0)) total → (listed spare listed' : List ℕ) → length spare ≡ length listed
      → width κ * n ≤ length listed → listed' ≡ overlay spare 0 (λ i. get_or (row_final t κ (head_of t κ n (suc (i / width κ)))) (i % width κ) 0) (width κ * total)
      → Numbered t κ n total numbers numbers' firsts firsts' listed listed'
  numbered_of_lem firsts' e listed spare listed' same room f = record {
    total_is = R.total;
    ranks = R.ranks;
    firsts_are = closed_firsts_front t κ n total places places_front K (omega (arith, few, places_long)) firsts' e;
    listed_are = closed_front t κ n total spare listed' (omega (arith, times_low (width κ) few)) f;
    firsts_long = ap length e ∙ length-overlay places 0 _ total ∙ places_long;
    listed_long = ap length f ∙ length-overlay spare 0 _ (width κ * total) ∙ same;
  }

-- .. for rows that are copied, and for those of curves
module _ (links keys rows numbers numbers' firsts places firsts' listed spare listed' : List ℕ) (n total : ℕ) (R : AnyKind links keys (λ t κ. Ranked t κ n total numbers numbers' firsts places))
    (fit : n ≤ length firsts) (same : length spare ≡ length listed) (e : firsts' ≡ overlay places 0 (λ i. position_at keys (get_or places i 0)) total) where
  pub numbered_copied : (w : ℕ) → w * n ≤ length listed → listed' ≡ overlay spare 0 (λ i. entry_at rows w (get_or places (i / w) 0) (i % w)) (w * total)
      → AnyCopied links keys rows w (λ t κ. Numbered t κ n total numbers numbers' firsts firsts' listed listed')
  numbered_copied w room f t κ K M r q own =
      numbered_of_lem t κ n total keys numbers numbers' firsts places K (R t κ K M) fit firsts' e listed spare listed' same (rw q room)
      (closed_copied t n total places κ own (places_front t κ n total keys numbers numbers' firsts places K (R t κ K M) fit) r spare listed' (rw q f))

  pub numbered_curves : (faces : List ℕ) → 4 * n ≤ length listed → listed' ≡ overlay spare 0 (λ i. get_or (curve_row faces rows (get_or places (i / 4) 0)) (i % 4) 0) (4 * total)
      → AnyCurves links keys rows faces (λ t. Numbered t Curve n total numbers numbers' firsts firsts' listed listed')
  numbered_curves faces room f t K M r g =
      numbered_of_lem t Curve n total keys numbers numbers' firsts places K (R t Curve K M) fit firsts' e listed spare listed' same room
      (closed_curves t n total places (places_front t Curve n total keys numbers numbers' firsts places K (R t Curve K M) fit) r g spare listed' f)
