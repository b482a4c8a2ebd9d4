-- Whatever blocks have come so far, in any order, the totals stand, so that 8 is not given for them.
-- Assumes nothing.
use mathlib.Core.Path.{◌≡◌, sym, ap, ◌∙◌, subst}
use mathlib.Core.Bool.{true}
use mathlib.Core.List.Memᴰ
use mathlib.Core.List.{List, ◌++◌}
use Prim.Native.Nat.{ℕ, ◌+◌, ◌*◌, ◌^◌, ◌≤◌, ◌<◌}
use native.Mathlib.Omega.{arith}
use lib.Dec.{leb, lit<}
use lib.IntN.{ℤ, pos, ◌+ℤ◌, nat_abs}
use lib.ListN.{get_or, length, length-append, get_or-eq_default}
use lib.Ieee.{Float}
use borrow.Author.Tests.{le-leb}
use Rattle.lists.specs.Lists.{consecutive, all_of}
use Rattle.lists.proofs.Cases.{and_both}
use Rattle.lists.proofs.Tests.{all_in, all_out}
use Rattle.cutting.specs.Cutting.{Cutting, blocks, good_cut}
use Rattle.strains.specs.Units.{plus_zero, is_units}
use Rattle.strains.specs.Readings.{is_good, units_sum, Reordered, of_kind}
use Rattle.strains.specs.declared.Reading.{Reading}
use Rattle.strains.proofs.Sums.{length-reordered, good_reordered, size_summed, float_none}
use Rattle.strains.proofs.Whole.{float_units}
use Rattle.totals.specs.Totals.{readings_for, side_at, side_stands, stands_at}
use Rattle.strain_calls.specs.Adding.{gathered}
use Rattle.pass_strain.specs.BlockReadings.{Brought}
use Rattle.pass_strain.proofs.TakenLaws.{gathered_append, sums_length, counts_length}
use Rattle.theory_totals.specs.Volume.{taken_by, volume_taken, sums_over, counts_over}
use Rattle.theory_totals.proofs.SlotLaws.{sum_exact, count_at, kind_few}
use Rattle.theory_totals.proofs.Reordering.{re_sym}
use Rattle.theory_totals.proofs.OrderLaws.{sums_over_lem, counts_over_lem, taken_all, re_for}
use Rattle.theory_totals.proofs.SideLaws.{for_split}

-- ---- a part of the blocks

module _ (k : Cutting) (good : good_cut k ≡ true) (g : ℕ → Brought) (came rest : List ℕ) (all : Reordered (came ++ rest) (consecutive 0 (blocks k))) (s : ℕ) where
  abbrev sofar : List Reading
  sofar = readings_for s (gathered (taken_by k g) came)

  all_come : Reordered (sofar ++ readings_for s (gathered (taken_by k g) rest)) (readings_for s (volume_taken k g))
  all_come =
      subst (λ (l : List Reading). Reordered l (readings_for s (volume_taken k g)))
      (ap (readings_for s) (gathered_append (taken_by k g) came rest) ∙ for_split s (gathered (taken_by k g) came) (gathered (taken_by k g) rest))
      (re_for s (taken_all k good g (came ++ rest) all))

  pub sofar_few : length sofar ≤ length (readings_for s (volume_taken k g))
  sofar_few = omega (arith, length-append sofar (readings_for s (gathered (taken_by k g) rest)), length-reordered all_come)

  pub sofar_good : all_of is_good (readings_for s (volume_taken k g)) ≡ true → all_of is_good sofar ≡ true
  sofar_good h =
      all_in is_good sofar (λ r m. all_out is_good (sofar ++ readings_for s (gathered (taken_by k g) rest)) (good_reordered (re_sym all_come) h) (Memᴰ.append_left (readings_for s (gathered (taken_by k g) rest)) m))

  module _ (most : ℕ) (sums : List Float) (counts : List ℕ) (hs : s < length sums) (hc : 3 * s + 2 < length counts) (zs : get_or sums s plus_zero ≡ plus_zero) (zc : (j : ℕ) → j ≤ 2 → get_or counts (3 * s + j) 0 ≡ 0)
      (ok : all_of is_good (readings_for s (volume_taken k g)) ≡ true) (few : length (readings_for s (volume_taken k g)) < 2 ^ 32) (fit : length (readings_for s (volume_taken k g)) ≤ most) where
    sum_stands : is_units 9007199254740992 (get_or (sums_over k g sums came) s plus_zero) ≡ true
    sum_stands =
        let z : ℤ = pos 0 +ℤ units_sum sofar in
        let l : nat_abs z ≤ 0 + 2097152 * length sofar = size_summed (pos 0) sofar (sofar_good ok) in
        subst (λ (x : Float). is_units 9007199254740992 x ≡ true)
        (sym (ap (λ (xs : List Float). get_or xs s plus_zero) (sums_over_lem k g sums came)
        ∙ sum_exact (pos 0) s sums (gathered (taken_by k g) came) hs (zs ∙ sym float_none) (sofar_good ok) (omega (arith, sofar_few))))
        (float_units z 9007199254740992 (omega (arith, sofar_few)) (omega (arith, sofar_few)))

    count_stands : (j : ℕ) → j ≤ 2 → leb (get_or (counts_over k g counts came) (3 * s + j) 0) most ≡ true
    count_stands j hj =
        let e : get_or (counts_over k g counts came) (3 * s + j) 0 ≡ get_or counts (3 * s + j) 0 + of_kind j sofar =
        ap (λ (xs : List ℕ). get_or xs (3 * s + j) 0) (counts_over_lem k g counts came)
        ∙ count_at s j hj counts (gathered (taken_by k g) came) (omega arith) (omega (arith, zc j hj, kind_few j sofar, sofar_few)) in
        le-leb (get_or (counts_over k g counts came) (3 * s + j) 0) most (omega (arith, zc j hj, kind_few j sofar, sofar_few))

    -- The total at a place stands, whatever blocks have come.
    pub stands_sofar : stands_at most (sums_over k g sums came) (counts_over k g counts came) s ≡ true
    unfolding stands_at side_stands side_at
    stands_sofar =
        let z : 3 * s + 0 ≡ 3 * s = omega arith in
        let c0 : leb (get_or (counts_over k g counts came) (3 * s) 0) most ≡ true = subst (λ (i : ℕ). leb (get_or (counts_over k g counts came) i 0) most ≡ true) z (count_stands 0 (omega arith)) in
        and_both _ _ sum_stands (and_both _ _ c0 (and_both _ _ (count_stands 1 (omega arith)) (count_stands 2 (omega arith))))

-- past the end of the tables there is nothing that could fail to stand
pub stands_past : (most : ℕ) (sums : List Float) (counts : List ℕ) (s : ℕ) → length sums ≤ s → length counts ≤ 3 * s → stands_at most sums counts s ≡ true
unfolding stands_at side_stands side_at
stands_past most sums counts s h c =
    and_both _ _ (ap (is_units 9007199254740992) (get_or-eq_default sums plus_zero {n = s} h) ∙ zero_units) (and_both _ _ (low (3 * s) c) (and_both _ _ (low (3 * s + 1) (omega arith)) (low (3 * s + 2) (omega arith))))
  where
    low : (i : ℕ) → length counts ≤ i → leb (get_or counts i 0) most ≡ true
    low i l = le-leb (get_or counts i 0) most (omega (arith, get_or-eq_default counts 0 {n = i} l))

    zero_units : is_units 9007199254740992 plus_zero ≡ true
    zero_units = subst (λ (x : Float). is_units 9007199254740992 x ≡ true) float_none (float_units (pos 0) 9007199254740992 (lit< tt) (omega arith))

pub over_lengths : (k : Cutting) (g : ℕ → Brought) (sums : List Float) (counts bs : List ℕ) → (length (sums_over k g sums bs) ≡ length sums) × (length (counts_over k g counts bs) ≡ length counts)
over_lengths k g sums counts bs =
    (ap length (sums_over_lem k g sums bs) ∙ sums_length sums (gathered (taken_by k g) bs), ap length (counts_over_lem k g counts bs) ∙ counts_length counts (gathered (taken_by k g) bs))
