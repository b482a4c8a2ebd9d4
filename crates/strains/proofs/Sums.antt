-- Sums of readings are exact, in every order.
-- Assumes nothing.
use mathlib.Core.Path.{◌≡◌, refl, sym, ap, ◌∙◌}
use mathlib.Core.Bool.{Bool, true, false, cond}
use mathlib.Core.List.{List, [], ◌∷◌}
use Prim.Native.Nat.{ℕ, zero, suc, ◌+◌, ◌*◌, ◌^◌, ◌≤◌, ◌<◌, zero-le}
use native.Mathlib.Omega.{arith}
use lib.IntN.{ℤ, pos, negsuc, neg_ℤ, ◌+ℤ◌, sub_ℕ, nat_abs, +ℤ_assoc, +ℤ_comm, +ℤ_idr}
use lib.Dec.{ltb}
use borrow.Author.Tests.{ltb-true}
use lib.ListN.{length}
use lib.Ieee.{Float, fin, round}
use Rattle.lists.specs.Lists.{all_of}
use Rattle.lists.proofs.Cases.{by_test, and_first, and_second, and_both}
use Rattle.strains.specs.Units.{is_units, whole_units, float_of}
use Rattle.strains.specs.Readings.{is_good, sum_with, summed, units_in, units_sum, Reordered, none, both, swap, then}
use Rattle.strains.specs.declared.Reading.{Reading}
use Rattle.strains.proofs.Exact.{add_units, sized}

-- ---- sizes of whole numbers

sub_size : (m n : ℕ) → nat_abs (sub_ℕ m n) ≤ m + n
sub_size m n = by_test (ltb m n) (λ t. rw t (omega (arith, ltb-true m n t))) (λ t. rw t (omega arith))

pub size_add : (a b : ℤ) → nat_abs (a +ℤ b) ≤ nat_abs a + nat_abs b
size_add (pos m) (pos n) = omega arith
size_add (pos m) (negsuc n) = omega (arith, sub_size m (suc n))
size_add (negsuc m) (pos n) = omega (arith, sub_size n (suc m))
size_add (negsuc m) (negsuc n) = omega arith

size_signed : (s : Bool) (n : ℕ) → nat_abs (cond s (neg_ℤ (pos n)) (pos n)) ≤ n
size_signed false n = omega arith
size_signed true zero = omega arith
size_signed true (suc n) = omega arith

pub size_units : (x : Float) (most : ℕ) → is_units most x ≡ true → nat_abs (whole_units x) ≤ most
size_units x most h = let w = sized x most h in omega (arith, ap nat_abs w.3, size_signed w.0 w.1, w.4)

-- ---- one reading

pub size_in : (r : Reading) → is_good r ≡ true → nat_abs (units_in r) ≤ 2097152
unfolding is_good units_in
size_in (Reading.Strain x) h = size_units x 2097152 h
size_in (Reading.Clipped x) h = zero-le
size_in Reading.Missing h = zero-le

pub sum_with_lem : (z : ℤ) (r : Reading) → nat_abs z < 2 ^ 53 → is_good r ≡ true → sum_with (float_of z) r ≡ float_of (z +ℤ units_in r)
unfolding sum_with units_in is_good
sum_with_lem z (Reading.Strain x) h g = add_units z x 2097152 h g
sum_with_lem z (Reading.Clipped x) h g = ap float_of (sym (+ℤ_idr z))
sum_with_lem z Reading.Missing h g = ap float_of (sym (+ℤ_idr z))

-- ---- a list of them

-- The sum of floats is the float of the sum of 1,024ths.
pub summed_exact : (z : ℤ) (rs : List Reading) → all_of is_good rs ≡ true → nat_abs z + 2097152 * length rs < 2 ^ 53 → summed (float_of z) rs ≡ float_of (z +ℤ units_sum rs)
unfolding summed units_sum
summed_exact z [] g h = ap float_of (sym (+ℤ_idr z))
summed_exact z (r ∷ rs) g h =
    let gr : is_good r ≡ true = and_first (is_good r) (all_of is_good rs) g in
    let grs : all_of is_good rs ≡ true = and_second (is_good r) (all_of is_good rs) g in
    let l : nat_abs (z +ℤ units_in r) + 2097152 * length rs < 2 ^ 53 = omega (arith, size_add z (units_in r), size_in r gr) in
    ap (λ (s : Float). summed s rs) (sum_with_lem z r (omega arith) gr)
    ∙ summed_exact (z +ℤ units_in r) rs grs l
    ∙ ap float_of (+ℤ_assoc z (units_in r) (units_sum rs))

-- the size of the sum
pub size_summed : (z : ℤ) (rs : List Reading) → all_of is_good rs ≡ true → nat_abs (z +ℤ units_sum rs) ≤ nat_abs z + 2097152 * length rs
unfolding units_sum
size_summed z [] g = omega (arith, ap nat_abs (+ℤ_idr z))
size_summed z (r ∷ rs) g =
    let gr : is_good r ≡ true = and_first (is_good r) (all_of is_good rs) g in
    omega (arith, ap nat_abs (+ℤ_assoc z (units_in r) (units_sum rs)), size_summed (z +ℤ units_in r) rs (and_second (is_good r) (all_of is_good rs) g), size_add z (units_in r), size_in r gr)

-- ---- any order

pub units_reordered : {rs ts : List Reading} → Reordered rs ts → units_sum rs ≡ units_sum ts
unfolding units_sum
units_reordered none = refl
units_reordered (both {x = r} p) = ap (λ (z : ℤ). units_in r +ℤ z) (units_reordered p)
units_reordered (swap {x = r} {y = t} {xs = rs}) =
    sym (+ℤ_assoc (units_in r) (units_in t) (units_sum rs))
    ∙ ap (λ (z : ℤ). z +ℤ units_sum rs) (+ℤ_comm (units_in r) (units_in t))
    ∙ +ℤ_assoc (units_in t) (units_in r) (units_sum rs)
units_reordered (then p q) = units_reordered p ∙ units_reordered q

pub length-reordered : {A : Type 0} {rs ts : List A} → Reordered rs ts → length rs ≡ length ts
length-reordered none = refl
length-reordered (both p) = ap suc (length-reordered p)
length-reordered swap = refl
length-reordered (then p q) = length-reordered p ∙ length-reordered q

pub good_reordered : {rs ts : List Reading} → Reordered rs ts → all_of is_good rs ≡ true → all_of is_good ts ≡ true
good_reordered none g = g
good_reordered (both {x = r} {xs = rs} {ys = ts} p) g = and_both (is_good r) (all_of is_good ts) (and_first (is_good r) (all_of is_good rs) g) (good_reordered p (and_second (is_good r) (all_of is_good rs) g))
good_reordered (swap {x = r} {y = t} {xs = rs}) g =
    let u = and_second (is_good r) (all_of is_good (t ∷ rs)) g in
    and_both (is_good t) (all_of is_good (r ∷ rs)) (and_first (is_good t) (all_of is_good rs) u)
    (and_both (is_good r) (all_of is_good rs) (and_first (is_good r) (all_of is_good (t ∷ rs)) g) (and_second (is_good t) (all_of is_good rs) u))
good_reordered (then p q) g = good_reordered q (good_reordered p g)

-- +0 is no 1,024ths
pub float_none : float_of (pos 0) ≡ fin false 0 (pos 0)
unfolding float_of round
float_none = refl
