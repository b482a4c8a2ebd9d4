-- What a list of readings leaves at one place of the totals.
-- Assumes nothing.
use mathlib.Core.Path.{◌≡◌, refl, sym, ap, ◌∙◌}
use mathlib.Core.Bool.{true, false}
use mathlib.Core.List.{List, [], ◌∷◌}
use Prim.Native.Nat.{ℕ, suc, ◌+◌, ◌*◌, ◌^◌, ◌≤◌, ◌<◌, min}
use native.Mathlib.Omega.{arith}
use lib.Dec.{eqb}
use lib.IntN.{ℤ, ◌+ℤ◌, nat_abs}
use lib.ListN.{get_or, length, length-set}
use lib.Seq.{get_or-set_same, get_or-set_other}
use lib.Ieee.{Float}
use borrow.Author.Tests.{eqb-true, eqb-false}
use Rattle.lists.specs.Lists.{all_of}
use Rattle.lists.proofs.Cases.{by_test}
use Rattle.strains.specs.Units.{plus_zero, float_of}
use Rattle.strains.specs.Readings.{is_good, sum_with, summed, units_sum, kind_of, of_kind}
use Rattle.strains.specs.declared.Reading.{Reading}
use Rattle.strains.proofs.Sums.{summed_exact}
use Rattle.totals.specs.Totals.{Taken, after, sum_added, sums_with, more, count_added, counts_with, readings_for}

-- the readings for a place, one by one
module _ (s : ℕ) (t : Taken) (ts : List Taken) where
  for_here : eqb t.slot s ≡ true → readings_for s (t ∷ ts) ≡ t.reading ∷ readings_for s ts
  unfolding readings_for
  for_here h = rw h

  for_other : eqb t.slot s ≡ false → readings_for s (t ∷ ts) ≡ readings_for s ts
  unfolding readings_for
  for_other h = rw h

summed_next : (x : Float) (r : Reading) (rs : List Reading) → summed x (r ∷ rs) ≡ summed (sum_with x r) rs
unfolding summed
summed_next x r rs = refl

summed_none : (x : Float) (s : ℕ) → summed x (readings_for s []) ≡ x
unfolding summed readings_for
summed_none x s = refl

-- ---- the sum

module _ (sums : List Float) (t : Taken) (s : ℕ) where
  added_long : s < length sums → s < length (sum_added sums t.slot t.reading)
  unfolding sum_added
  added_long h = rw (length-set sums t.slot (sum_with (get_or sums t.slot plus_zero) t.reading)) h

  added_here : eqb t.slot s ≡ true → s < length sums → get_or (sum_added sums t.slot t.reading) s plus_zero ≡ sum_with (get_or sums s plus_zero) t.reading
  unfolding sum_added
  added_here u h = rw (eqb-true t.slot s u) (get_or-set_same sums s (sum_with (get_or sums s plus_zero) t.reading) plus_zero h)

  added_other : eqb t.slot s ≡ false → get_or (sum_added sums t.slot t.reading) s plus_zero ≡ get_or sums s plus_zero
  unfolding sum_added
  added_other u = get_or-set_other sums t.slot s (sum_with (get_or sums t.slot plus_zero) t.reading) plus_zero (λ e. eqb-false t.slot s u (sym e))

pub sum_at : (s : ℕ) (sums : List Float) (ts : List Taken) → s < length sums → get_or (sums_with sums ts) s plus_zero ≡ summed (get_or sums s plus_zero) (readings_for s ts)
unfolding sums_with after
sum_at s sums [] h = nothing
  where
    nothing : get_or sums s plus_zero ≡ summed (get_or sums s plus_zero) (readings_for s [])
    nothing = sym (summed_none (get_or sums s plus_zero) s)
sum_at s sums (t ∷ ts) h =
    sum_at s (sum_added sums t.slot t.reading) ts (added_long sums t s h)
    ∙ by_test (eqb t.slot s)
    (λ u. ap (λ (x : Float). summed x (readings_for s ts)) (added_here sums t s u h) ∙ sym (ap (summed (get_or sums s plus_zero)) (for_here s t ts u) ∙ summed_next (get_or sums s plus_zero) t.reading (readings_for s ts)))
    (λ u. ap (λ (x : Float). summed x (readings_for s ts)) (added_other sums t s u) ∙ ap (summed (get_or sums s plus_zero)) (sym (for_other s t ts u)))

-- .. is exact: the float of so many 1,024ths.
pub sum_exact : (z : ℤ) (s : ℕ) (sums : List Float) (ts : List Taken) → s < length sums → get_or sums s plus_zero ≡ float_of z → all_of is_good (readings_for s ts) ≡ true
    → nat_abs z + 2097152 * length (readings_for s ts) < 2 ^ 53 → get_or (sums_with sums ts) s plus_zero ≡ float_of (z +ℤ units_sum (readings_for s ts))
sum_exact z s sums ts h e g l = sum_at s sums ts h ∙ ap (λ (x : Float). summed x (readings_for s ts)) e ∙ summed_exact z (readings_for s ts) g l

-- ---- the counts

kind_most : (r : Reading) → kind_of r ≤ 2
unfolding kind_of
kind_most (Reading.Strain x) = omega arith
kind_most (Reading.Clipped x) = omega arith
kind_most Reading.Missing = omega arith

module _ (k : ℕ) (r : Reading) (rs : List Reading) where
  kind_here : eqb (kind_of r) k ≡ true → of_kind k (r ∷ rs) ≡ suc (of_kind k rs)
  unfolding of_kind
  kind_here h = rw h

  kind_other : eqb (kind_of r) k ≡ false → of_kind k (r ∷ rs) ≡ of_kind k rs
  unfolding of_kind
  kind_other h = rw h

-- strains, clipped and missing together are all readings
pub kinds_all : (rs : List Reading) → of_kind 0 rs + of_kind 1 rs + of_kind 2 rs ≡ length rs
unfolding of_kind kind_of
kinds_all [] = refl
kinds_all (Reading.Strain x ∷ rs) = omega (arith, kinds_all rs)
kinds_all (Reading.Clipped x ∷ rs) = omega (arith, kinds_all rs)
kinds_all (Reading.Missing ∷ rs) = omega (arith, kinds_all rs)

module _ (counts : List ℕ) (t : Taken) (s k : ℕ) (hk : k ≤ 2) where
  counted_long : 3 * s + k < length counts → 3 * s + k < length (count_added counts t.slot t.reading)
  unfolding count_added
  counted_long h = rw (length-set counts (3 * t.slot + kind_of t.reading) (more (get_or counts (3 * t.slot + kind_of t.reading) 0))) h

  counted_here : t.slot ≡ s → kind_of t.reading ≡ k → 3 * s + k < length counts → get_or counts (3 * s + k) 0 < 18446744073709551615 → get_or (count_added counts t.slot t.reading) (3 * s + k) 0 ≡ suc (get_or counts (3 * s + k) 0)
  unfolding count_added more
  counted_here e f h l = rw (e, f) (get_or-set_same counts (3 * s + k) (min (get_or counts (3 * s + k) 0 + 1) 18446744073709551615) 0 h ∙ omega arith)

  counted_other : (3 * s + k ≡ 3 * t.slot + kind_of t.reading → ⊥) → get_or (count_added counts t.slot t.reading) (3 * s + k) 0 ≡ get_or counts (3 * s + k) 0
  unfolding count_added
  counted_other n = get_or-set_other counts (3 * t.slot + kind_of t.reading) (3 * s + k) (more (get_or counts (3 * t.slot + kind_of t.reading) 0)) 0 n

none_kind : (k : ℕ) → of_kind k [] ≤ 0
unfolding of_kind
none_kind k = omega arith

none_more : (n s k : ℕ) → n ≡ n + of_kind k (readings_for s [])
unfolding of_kind readings_for
none_more n s k = omega arith

pub count_at : (s k : ℕ) → k ≤ 2 → (counts : List ℕ) (ts : List Taken) → 3 * s + k < length counts → get_or counts (3 * s + k) 0 + of_kind k (readings_for s ts) < 18446744073709551616
    → get_or (counts_with counts ts) (3 * s + k) 0 ≡ get_or counts (3 * s + k) 0 + of_kind k (readings_for s ts)
unfolding counts_with after
count_at s k hk counts [] h l = none_more (get_or counts (3 * s + k) 0) s k
count_at s k hk counts (t ∷ ts) h l =
    by_test (eqb t.slot s)
    (λ u.
    by_test (eqb (kind_of t.reading) k)
    (λ v.
    let f : of_kind k (readings_for s (t ∷ ts)) ≡ suc (of_kind k (readings_for s ts)) = ap (of_kind k) (for_here s t ts u) ∙ kind_here k t.reading (readings_for s ts) v in
    let g = counted_here counts t s k hk (eqb-true t.slot s u) (eqb-true (kind_of t.reading) k v) h (omega arith) in
    count_at s k hk (count_added counts t.slot t.reading) ts (counted_long counts t s k hk h) (omega arith) ∙ omega arith)
    (λ v.
    let f : of_kind k (readings_for s (t ∷ ts)) ≡ of_kind k (readings_for s ts) = ap (of_kind k) (for_here s t ts u) ∙ kind_other k t.reading (readings_for s ts) v in
    let g = counted_other counts t s k hk (λ e. eqb-false (kind_of t.reading) k v (omega (arith, eqb-true t.slot s u))) in
    count_at s k hk (count_added counts t.slot t.reading) ts (counted_long counts t s k hk h) (omega arith) ∙ omega arith))
    (λ u.
    let f : of_kind k (readings_for s (t ∷ ts)) ≡ of_kind k (readings_for s ts) = ap (of_kind k) (for_other s t ts u) in
    let g = counted_other counts t s k hk (λ e. eqb-false t.slot s u (omega (arith, kind_most t.reading))) in
    count_at s k hk (count_added counts t.slot t.reading) ts (counted_long counts t s k hk h) (omega arith) ∙ omega arith)

pub kind_few : (k : ℕ) (rs : List Reading) → of_kind k rs ≤ length rs
kind_few k [] = none_kind k
kind_few k (r ∷ rs) = by_test (eqb (kind_of r) k) (λ t. omega (arith, kind_here k r rs t, kind_few k rs)) (λ t. omega (arith, kind_other k r rs t, kind_few k rs))
