-- Sums of whole 1,024ths are exact.
-- Assumes nothing.
use mathlib.Core.Path.{◌≡◌, refl, sym, ap, ap₂, ◌∙◌, subst}
use Prim.Native.Nat.{ℕ, zero, suc, ◌+◌, ◌-◌, ◌*◌, ◌/◌, ◌%◌, ◌^◌, ◌≤◌, ◌<◌, zero-le}
use native.Mathlib.Nat.{mul_assoc, mul_comm, mul_right_comm, mul-pos, div-add-mod', add-zero, add-mul, zero-lt-suc, lt_of_lt_of_le, mul-lt-mul_of_pos_right, mul-le-mul_right, lt_of_mul-lt-mul_right, le_of_mul-le-mul_right, mul-sub}
use native.Mathlib.Omega.{arith}
use mathlib.Core.Bool.{Bool, true, false, cond, ◌&&◌}
use lib.IntN.{ℤ, pos, negsuc, neg_ℤ, ◌+ℤ◌, sub_ℕ, nat_abs}
use lib.Dec.{T, ltb, eqb, leb, eqb→eq, leb→le, lit≤}
use lib.Pow.{pow-add, pow_mono, shl_lt}
use lib.Ieee.{Float, nan, inf, fin, binary64, low, up, down, round, sum, add}
use lib.Ieee.Exact.{HasValue, round_exact}
use lib.Ieee.Fits.{down_pos, and_l, and_r}
use lib.Ieee.Scale.{round_same}
use borrow.Author.Tests.{lt-ltb, le-ltb, ltb-true, ltb-false}
use Rattle.lists.proofs.Cases.{by_test}
use Rattle.strains.specs.Units.{is_units, whole_units, float_of}

-- ---- a whole number of 1,024ths below 2 ^ 53 is a float exactly
room : 53 + 1064 ≤ low binary64 + 1024
room = lit≤ tt

pub exact_size : (s : Bool) (n : ℕ) → n < 2 ^ 53 → HasValue (round binary64 s n 1024) s n 1024
exact_size s n h =
    round_exact binary64 s n 1024 n 1064 (zero-lt-suc 1023) h
    (lt_of_lt_of_le (shl_lt 53 1064 h) (pow_mono room))
    (ap (λ (x : ℕ). n * x) (pow-add 2 1064 10) ∙ sym (mul_assoc n (2 ^ 1064) 1024))

-- ---- a sum sees only the values of what it adds
module _ (A B C a b c : ℕ) (Cp : 0 < C) (cp : 0 < c) (p : A * c ≡ a * C) (q : B * c ≡ b * C) where
  less : ltb A B ≡ ltb a b
  less =
      by_test (ltb a b)
      (λ t. lt-ltb A B (lt_of_mul-lt-mul_right c (subst (λ (x : ℕ). x < B * c) (sym p) (subst (λ (x : ℕ). a * C < x) (sym q) (mul-lt-mul_of_pos_right (ltb-true a b t) Cp)))) ∙ sym t)
      (λ t. le-ltb A B (le_of_mul-le-mul_right (subst (λ (x : ℕ). x ≤ A * c) (sym q) (subst (λ (x : ℕ). b * C ≤ x) (sym p) (mul-le-mul_right C (ltb-false a b t)))) cp) ∙ sym t)

  plus : (A + B) * c ≡ (a + b) * C
  plus = add-mul A B c ∙ ap₂ ◌+◌ p q ∙ sym (add-mul a b C)

  difference : (A - B) * c ≡ (a - b) * C
  difference = mul_comm (A - B) c ∙ mul-sub c A B ∙ ap₂ ◌-◌ (mul_comm c A ∙ p) (mul_comm c B ∙ q) ∙ ap₂ ◌-◌ (mul_comm a C) (mul_comm b C) ∙ sym (mul-sub C a b) ∙ mul_comm C (a - b)

-- ±A / C + ±B / C is ±a / c + ±b / c
sum_same : (s t : Bool) (A B C a b c : ℕ) → 0 < C → 0 < c → A * c ≡ a * C → B * c ≡ b * C → sum binary64 s A t B C ≡ sum binary64 s a t b c
unfolding sum
sum_same s t A B C a b c Cp cp p q =
    rw (
      less A B C a b c Cp cp p q,
      less B A C b a c Cp cp q p,
      round_same binary64 s (A + B) C (a + b) c Cp cp (plus A B C a b c Cp cp p q),
      round_same binary64 t (B - A) C (b - a) c Cp cp (difference B A C b a c Cp cp q p),
      round_same binary64 (s && ltb b a) (A - B) C (a - b) c Cp cp (difference A B C a b c Cp cp p q),
    ) refl

-- .. so a sum of two floats that are so many 1,024ths
pub add_has : (x y : Float) (s t : Bool) (a b : ℕ) → HasValue x s a 1024 → HasValue y t b 1024 → add binary64 x y ≡ sum binary64 s a t b 1024
unfolding add
add_has nan y s t a b h k = absurd h
add_has (inf _) y s t a b h k = absurd h
add_has (fin s' m e) nan s t a b h k = absurd k
add_has (fin s' m e) (inf _) s t a b h k = absurd k
add_has (fin s' m e) (fin t' n d) s t a b h k =
    ap₂ (λ (x y : Bool). sum binary64 x (m * up e * down d) y (n * up d * down e) (down e * down d)) h.0 k.0
    ∙ sum_same s t (m * up e * down d) (n * up d * down e) (down e * down d) a b 1024 (mul-pos (down_pos e) (down_pos d)) (zero-lt-suc 1023)
    (mul_right_comm (m * up e) (down d) 1024 ∙ ap (λ (x : ℕ). x * down d) h.1 ∙ mul_assoc a (down e) (down d))
    (mul_right_comm (n * up d) (down e) 1024 ∙ ap (λ (x : ℕ). x * down e) k.1 ∙ mul_assoc b (down d) (down e) ∙ ap (λ (x : ℕ). b * x) (mul_comm (down d) (down e)))

-- ---- the sum of two whole numbers of 1,024ths
unfoldable pub sign_of : ℤ → Bool
sign_of (pos n) = false
sign_of (negsuc n) = true

pub sized : (x : Float) (most : ℕ) → is_units most x ≡ true → (s : Bool) × (n : ℕ) × HasValue x s n 1024 × (whole_units x ≡ cond s (neg_ℤ (pos n)) (pos n)) × (n ≤ most)
unfolding is_units whole_units
sized nan most h = absurd (subst T (sym h) tt)
sized (inf s) most h = absurd (subst T (sym h) tt)
sized (fin s m e) most h =
    let t : T (eqb (m * up e * 1024 % down e) 0 && leb (m * up e * 1024) (most * down e)) = subst T (sym h) tt in
    let r : m * up e * 1024 % down e ≡ 0 = eqb→eq (m * up e * 1024 % down e) 0 (and_l (eqb (m * up e * 1024 % down e) 0) (leb (m * up e * 1024) (most * down e)) t) in
    let v : m * up e * 1024 ≡ m * up e * 1024 / down e * down e =
    sym (div-add-mod' (m * up e * 1024) (down e)) ∙ ap (λ (x : ℕ). m * up e * 1024 / down e * down e + x) r ∙ add-zero (m * up e * 1024 / down e * down e) in
    let l : m * up e * 1024 ≤ most * down e = leb→le (m * up e * 1024) (most * down e) (and_r (eqb (m * up e * 1024 % down e) 0) (leb (m * up e * 1024) (most * down e)) t) in (
      s,
      m * up e * 1024 / down e,
      (refl, v),
      refl,
      le_of_mul-le-mul_right (subst (λ (x : ℕ). x ≤ most * down e) v l) (down_pos e),
    )

-- a difference of two natural numbers, as a float
float_sub : (a b : ℕ) → float_of (sub_ℕ a b) ≡ cond (ltb a b) (round binary64 true (b - a) 1024) (round binary64 false (a - b) 1024)
unfolding float_of
float_sub a b =
    by_test (ltb a b)
    (λ t. let l : a < b = ltb-true a b t in let e : suc (b - suc a) ≡ b - a = omega arith in rw t (ap (λ (n : ℕ). round binary64 true n 1024) e))
    (λ t. rw t refl)

-- the sum of a negative number and one that is not, by which of the two is larger
other_sign : (R : Bool → ℕ → Float) (a b : ℕ) → cond (ltb a b) (R false (b - a)) (R (ltb b a) (a - b)) ≡ cond (ltb b a) (R true (a - b)) (R false (b - a))
other_sign R a b =
    by_test (ltb b a)
    (λ t. let l : b < a = ltb-true b a t in rw (t, le-ltb a b (omega arith)) refl)
    (λ t.
    let l : a ≤ b = ltb-false b a t in
    by_test (ltb a b)
    (λ u. rw (t, u) refl)
    (λ u. let k : b ≤ a = ltb-false a b u in rw (t, u) (ap (R false) (omega arith))))

sum_is : (z : ℤ) (t : Bool) (b : ℕ) → sum binary64 (sign_of z) (nat_abs z) t b 1024 ≡ float_of (z +ℤ cond t (neg_ℤ (pos b)) (pos b))
unfolding sum float_of sign_of
sum_is (pos a) false b = refl
sum_is (pos a) true zero =
    let e : ltb a 0 ≡ false = le-ltb a 0 zero-le in
    let f : a - 0 ≡ a + 0 = omega arith in
    rw (e, f) refl
sum_is (pos a) true (suc b) = sym (float_sub a (suc b))
sum_is (negsuc a) true zero =
    let e : suc a + 0 ≡ suc a - 0 = omega arith in
    let f : ltb 0 (suc a) ≡ true = lt-ltb 0 (suc a) (zero-lt-suc a) in
    ap (λ (n : ℕ). round binary64 true n 1024) e
    ∙ sym (ap (λ (t : Bool). cond t (round binary64 true (suc a - 0) 1024) (round binary64 false (0 - suc a) 1024)) f)
    ∙ sym (float_sub 0 (suc a))
sum_is (negsuc a) true (suc b) = let e : suc a + suc b ≡ suc (suc (a + b)) = omega arith in ap (λ (n : ℕ). round binary64 true n 1024) e
sum_is (negsuc a) false b = other_sign (λ (s : Bool) (n : ℕ). round binary64 s n 1024) (suc a) b ∙ sym (float_sub b (suc a))

pub exactly : (z : ℤ) → nat_abs z < 2 ^ 53 → HasValue (float_of z) (sign_of z) (nat_abs z) 1024
unfolding float_of sign_of
exactly (pos n) h = exact_size false n h
exactly (negsuc n) h = exact_size true (suc n) h

-- what the summing step does to a total
pub add_units : (z : ℤ) (x : Float) (most : ℕ) → nat_abs z < 2 ^ 53 → is_units most x ≡ true → add binary64 (float_of z) x ≡ float_of (z +ℤ whole_units x)
add_units z x most h k =
    let w = sized x most k in
    add_has (float_of z) x (sign_of z) w.0 (nat_abs z) w.1 (exactly z h) w.2
    ∙ sum_is z w.0 w.1
    ∙ ap (λ (u : ℤ). float_of (z +ℤ u)) (sym w.3)
