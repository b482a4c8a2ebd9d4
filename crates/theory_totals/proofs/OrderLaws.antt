-- The totals once the readings of all blocks have come, in any order: exact sums, and counts, over the face cells of the volume.
-- Assumes nothing.
use mathlib.Core.Path.{◌≡◌, refl, sym, ap, ◌∙◌, subst}
use mathlib.Core.Bool.{true}
use mathlib.Core.List.{List, [], ◌∷◌, ◌++◌, Memᴰ}
use Prim.Native.Nat.{ℕ, ◌+◌, ◌*◌, ◌^◌, ◌≤◌, ◌<◌}
use native.Mathlib.Omega.{arith}
use lib.Dec.{eqb}
use lib.IntN.{pos, +ℤ_idl}
use lib.ListN.{get_or, length}
use lib.Ieee.{Float}
use Rattle.lists.specs.Lists.{consecutive, all_of}
use Rattle.lists.proofs.Lists.{consecutive_out}
use Rattle.cutting.specs.Cutting.{Cutting, blocks, good_cut, block_extents}
use Rattle.strains.specs.Units.{plus_zero, float_of}
use Rattle.strains.specs.Readings.{is_good, units_sum, kind_of, Reordered, then, of_kind}
use Rattle.strains.specs.declared.Reading.{Reading}
use Rattle.strains.proofs.Sums.{units_reordered, length-reordered, good_reordered, float_none}
use Rattle.totals.specs.Totals.{Taken, after, sums_with, counts_with, readings_for}
use Rattle.strain_calls.specs.Adding.{gathered}
use Rattle.lowest.specs.Lowest.{starts}
use Rattle.pass_strain.specs.BlockReadings.{Brought, block_taken}
use Rattle.pass_strain.proofs.TakenLaws.{after_append}
use Rattle.theory_totals.specs.Volume.{taken_by, taken_at, volume_taken, sums_over, counts_over}
use Rattle.theory_totals.proofs.SlotLaws.{sum_exact, count_at}
use Rattle.theory_totals.proofs.Reordering.{re_sym, re_same, re_map, re_keep, re_gathered}
use Rattle.theory_totals.proofs.OwnCells.{own_cells, taken_blocks}

-- ---- block after block

module _ (k : Cutting) (g : ℕ → Brought) where
  pub sums_over_lem : (sums : List Float) (bs : List ℕ) → sums_over k g sums bs ≡ sums_with sums (gathered (taken_by k g) bs)
  unfolding sums_over sums_with after gathered
  sums_over_lem sums [] = refl
  sums_over_lem sums (b ∷ bs) = sums_over_lem (sums_with sums (taken_by k g b)) bs ∙ sym (after_append _ sums (taken_by k g b) (gathered (taken_by k g) bs))

  pub counts_over_lem : (counts bs : List ℕ) → counts_over k g counts bs ≡ counts_with counts (gathered (taken_by k g) bs)
  unfolding counts_over counts_with after gathered
  counts_over_lem counts [] = refl
  counts_over_lem counts (b ∷ bs) = counts_over_lem (counts_with counts (taken_by k g b)) bs ∙ sym (after_append _ counts (taken_by k g b) (gathered (taken_by k g) bs))

-- .. and of one block more, where what the others bring stays as it is
module _ (k : Cutting) (g g' : ℕ → Brought) (b : ℕ) where
  pub sums_more : (sums : List Float) (bs : List ℕ) → ((d : ℕ) → Memᴰ d bs → g d ≡ g' d) → sums_over k g' sums (bs ++ (b ∷ [])) ≡ sums_with (sums_over k g sums bs) (taken_by k g' b)
  unfolding sums_over taken_by
  sums_more sums [] h = refl
  sums_more sums (d ∷ bs) h =
      sums_more (sums_with sums (block_taken (block_extents k d) (starts k d) (g' d))) bs (λ c m. h c (Memᴰ.tail m))
      ∙ ap (λ (x : Brought). sums_with (sums_over k g (sums_with sums (block_taken (block_extents k d) (starts k d) x)) bs) (block_taken (block_extents k b) (starts k b) (g' b))) (sym (h d (Memᴰ.head refl)))

  pub counts_more : (counts bs : List ℕ) → ((d : ℕ) → Memᴰ d bs → g d ≡ g' d) → counts_over k g' counts (bs ++ (b ∷ [])) ≡ counts_with (counts_over k g counts bs) (taken_by k g' b)
  unfolding counts_over taken_by
  counts_more counts [] h = refl
  counts_more counts (d ∷ bs) h =
      counts_more (counts_with counts (block_taken (block_extents k d) (starts k d) (g' d))) bs (λ c m. h c (Memᴰ.tail m))
      ∙ ap (λ (x : Brought). counts_with (counts_over k g (counts_with counts (block_taken (block_extents k d) (starts k d) x)) bs) (block_taken (block_extents k b) (starts k b) (g' b))) (sym (h d (Memᴰ.head refl)))

pub re_for : (s : ℕ) {ts us : List Taken} → Reordered ts us → Reordered (readings_for s ts) (readings_for s us)
unfolding readings_for
re_for s p = re_map (λ t. t.reading) (re_keep (λ t. eqb t.slot s) p)

re_kind : (j : ℕ) {rs ts : List Reading} → Reordered rs ts → of_kind j rs ≡ of_kind j ts
unfolding of_kind
re_kind j p = length-reordered (re_keep (λ r. eqb (kind_of r) j) p)

-- ---- all blocks, in any order

module _ (k : Cutting) (good : good_cut k ≡ true) (g : ℕ → Brought) (bs : List ℕ) (all : Reordered bs (consecutive 0 (blocks k))) where
  pub taken_all : Reordered (gathered (taken_by k g) bs) (volume_taken k g)
  unfolding volume_taken
  taken_all =
      then (re_gathered (taken_by k g) all)
      (then (re_same (taken_blocks k good g (consecutive 0 (blocks k)) (λ b m. omega (arith, consecutive_out 0 (blocks k) m)))) (re_gathered (taken_at k g) (own_cells k good)))

  module _ (s : ℕ) where
    abbrev readings : List Reading
    readings = readings_for s (volume_taken k g)

    came : Reordered (readings_for s (gathered (taken_by k g) bs)) readings
    came = re_for s taken_all

    -- "Sums are then exact, and are to equal the sum over whole 1,024ths for any order of blocks."
    pub total_exact : (sums : List Float) → s < length sums → get_or sums s plus_zero ≡ plus_zero → all_of is_good readings ≡ true → 2097152 * length readings < 2 ^ 53
        → get_or (sums_over k g sums bs) s plus_zero ≡ float_of (units_sum readings)
    total_exact sums h z ok few =
        ap (λ (xs : List Float). get_or xs s plus_zero) (sums_over_lem k g sums bs)
        ∙ sum_exact (pos 0) s sums (gathered (taken_by k g) bs) h (z ∙ sym float_none) (good_reordered (re_sym came) ok)
        (subst (λ (n : ℕ). 0 + 2097152 * n < 2 ^ 53) (sym (length-reordered came)) (omega arith))
        ∙ ap float_of (+ℤ_idl (units_sum (readings_for s (gathered (taken_by k g) bs))) ∙ units_reordered came)

    pub total_counted : (j : ℕ) → j ≤ 2 → (counts : List ℕ) → 3 * s + j < length counts → get_or counts (3 * s + j) 0 ≡ 0 → of_kind j readings < 18446744073709551616
        → get_or (counts_over k g counts bs) (3 * s + j) 0 ≡ of_kind j readings
    total_counted j hj counts h z few =
        let e : of_kind j (readings_for s (gathered (taken_by k g) bs)) ≡ of_kind j readings = re_kind j came in
        ap (λ (xs : List ℕ). get_or xs (3 * s + j) 0) (counts_over_lem k g counts bs)
        ∙ count_at s j hj counts (gathered (taken_by k g) bs) h (omega arith)
        ∙ omega arith
