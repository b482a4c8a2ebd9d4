-- "Minus zero counts as zero": a sum is never given as minus zero.
-- Assumes nothing.
use mathlib.Core.Path.{◌≡◌, refl, sym, ap, ◌∙◌, subst}
use mathlib.Core.Bool.{Bool, true, false, ◌&&◌, true≢false}
use mathlib.Core.Logic.{◌≢◌}
use Prim.Native.Nat.{ℕ, suc, ◌*◌, ◌^◌, ◌<◌}
use native.Mathlib.Nat.{mul-pos}
use native.Mathlib.Omega.{arith}
use lib.Dec.{eqb, ltb}
use lib.IntN.{ℤ, pos, negsuc, nat_abs}
use lib.Ieee.{Float, nan, inf, fin, down, round}
use lib.Ieee.Exact.{HasValue}
use lib.Ieee.Fits.{down_pos}
use borrow.Author.Tests.{ltb-true, ltb-false}
use Rattle.lists.proofs.Cases.{by_test}
use Rattle.strains.specs.Units.{is_units, whole_units, float_of}
use Rattle.strains.proofs.Exact.{sign_of, exactly}
use Rattle.strains.proofs.Sums.{size_units}

-- minus zero has no size, and a negative number of 1,024ths has one
minus_sized : (z e : ℤ) → HasValue (fin true 0 e) (sign_of z) (nat_abs z) 1024 → ⊥
unfolding sign_of
minus_sized (pos n) e v = true≢false v.0
minus_sized (negsuc n) e v = let w : 0 < suc n * down e = mul-pos (omega arith) (down_pos e) in omega (arith, v.1, w)

-- The float of a whole number of 1,024ths is not minus zero.
pub never_minus_zero : (z e : ℤ) → nat_abs z < 2 ^ 53 → float_of z ≢ fin true 0 e
never_minus_zero z e h q = minus_sized z e (subst (λ (x : Float). HasValue x (sign_of z) (nat_abs z) 1024) q (exactly z h))

-- .. nor is that of one at 2^43, where a sum may just stand
unfoldable is_minus_zero : Float → Bool
is_minus_zero nan = false
is_minus_zero (inf s) = false
is_minus_zero (fin s m e) = s && eqb m 0

top_sign : (z : ℤ) → nat_abs z ≡ 9007199254740992 → is_minus_zero (float_of z) ≡ false
unfolding is_minus_zero
top_sign (pos n) h = subst (λ (m : ℕ). is_minus_zero (float_of (pos m)) ≡ false) (sym h) (ap is_minus_zero plus_top)
  where
    plus_top : float_of (pos 9007199254740992) ≡ fin false 1 (pos 43)
    plus_top = unfold float_of round in refl
top_sign (negsuc n) h = subst (λ (m : ℕ). is_minus_zero (float_of (negsuc m)) ≡ false) (omega arith) (ap is_minus_zero minus_top)
  where
    minus_top : float_of (negsuc 9007199254740991) ≡ fin true 1 (pos 43)
    minus_top = unfold float_of round in refl

-- No sum that is given is minus zero, whatever the table held.
pub given_signed : (x : Float) → is_units 9007199254740992 x ≡ true → (e : ℤ) → float_of (whole_units x) ≢ fin true 0 e
unfolding is_minus_zero
given_signed x h e q =
    by_test (ltb (nat_abs (whole_units x)) (2 ^ 53))
    (λ t. never_minus_zero (whole_units x) e (ltb-true (nat_abs (whole_units x)) (2 ^ 53) t) q)
    (λ t. true≢false (sym (ap is_minus_zero q) ∙ top_sign (whole_units x) (omega (arith, ltb-false (nat_abs (whole_units x)) (2 ^ 53) t, size_units x 9007199254740992 h))))
