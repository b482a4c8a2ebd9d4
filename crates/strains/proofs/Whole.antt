-- A float that is not negative is a whole number of 1,024ths exactly where adding 2 ^ 42 and taking it away again gives it back.
-- Assumes nothing.
use mathlib.Core.Path.{◌≡◌, refl, sym, ap, ap₂, ◌∙◌, subst}
use Prim.Native.Nat.{ℕ, zero, suc, ◌+◌, ◌-◌, ◌*◌, ◌/◌, ◌%◌, ◌^◌, ◌≤◌, ◌<◌, zero-le}
use native.Mathlib.Nat.{mul_assoc, mul-one, one-mul, mul_right_comm, mul-pos, mul-div_cancel, mul-mod_left, zero-lt-suc, lt_of_lt_of_le, lt_of_le_of_lt, le_of_lt, le_trans, le_of_eq, mul-lt-mul_of_pos_right, mul-le-mul_right, lt_of_mul-lt-mul_right, le_of_mul-le-mul_right, not-le_of_lt, zero-mul, eq_of_mul-eq-mul_right}
use native.Mathlib.Omega.{arith}
use mathlib.Core.Bool.{Bool, true, false, cond, ◌&&◌, ◌||◌, beq, true≢false}
use lib.IntN.{ℤ, pos, negsuc, neg_ℤ, nat_abs}
use lib.Dec.{T, ltb, eqb, leb, ltb→lt, eqb→eq, leb→le, le→leb, eqb_refl, lit≤, lit<}
use lib.Pow.{pow-add, pow_pos, pow_mono}
use lib.Ieee.{Float, nan, inf, fin, binary64, up, down, round, sum, add, sub, neg, eq, le, lt, fits}
use lib.Ieee.Bits.{is_true}
use lib.Ieee.Exact.{HasValue}
use lib.Ieee.Fits.{up_pos, down_pos, and_l, and_r, and_i, round-fits}
use lib.Ieee.Order.{round_mono}
use borrow.Author.Tests.{lt-ltb, le-ltb, ltb-true, ltb-false, eqb-true, eq-eqb, leb-true, leb-false}
use Rattle.lists.proofs.Cases.{by_test}
use Rattle.strains.specs.Units.{is_units, whole_units, float_of}
use Rattle.strains.proofs.Exact.{exact_size, exactly, sign_of, sized, add_has}

-- 2 ^ 42, from which on every float is a whole number of 1,024ths
abbrev large : Float
large = fin false 1 (pos 42)

large_has : HasValue large false (2 ^ 52) 1024
large_has = (refl, refl)

less_has : HasValue (fin true 1 (pos 42)) true (2 ^ 52) 1024
less_has = (refl, refl)

-- two fractions of one size
cross : (x y de dd n : ℕ) → x * 1024 ≡ n * de → y * 1024 ≡ n * dd → x * dd ≡ y * de
cross x y de dd n p q =
    eq_of_mul-eq-mul_right 1024 (zero-lt-suc 1023) (x * dd) (y * de)
    (mul_right_comm x dd 1024 ∙ ap (λ (z : ℕ). z * dd) p ∙ mul_right_comm n de dd ∙ ap (λ (z : ℕ). z * de) (sym q) ∙ mul_right_comm y 1024 de)

one_sign : (s : Bool) (a : ℕ) → (s ≡ true → a ≡ 0) → T (beq false s || eqb a 0)
one_sign false a z = tt
one_sign true a z = subst (λ (x : ℕ). T (eqb x 0)) (sym (z refl)) (eqb_refl 0)

no_size : (m u n d c : ℕ) → 0 < c → m * u * c ≡ n * d → n ≡ 0 → m * u ≡ 0
no_size m u n d c h p z = eq_of_mul-eq-mul_right c h (m * u) 0 (p ∙ ap (λ (x : ℕ). x * d) z ∙ zero-mul d ∙ sym (zero-mul c))

-- two values of one size, one sign or none
eq_has : (x y : Float) (s : Bool) (n : ℕ) → HasValue x false n 1024 → HasValue y s n 1024 → ((s ≡ true) → n ≡ 0) → eq x y ≡ true
unfolding eq
eq_has nan y s n h k z = absurd h
eq_has (inf _) y s n h k z = absurd h
eq_has (fin s' m e) nan s n h k z = absurd k
eq_has (fin s' m e) (inf _) s n h k z = absurd k
eq_has (fin true m e) (fin t n' d) s n h k z = absurd (true≢false h.0)
eq_has (fin false m e) (fin t n' d) s n h k z =
    let A = m * up e * down d in
    is_true _
    (and_i (eqb A (n' * up d * down e)) (beq false t || eqb A 0)
    (subst (λ (x : ℕ). T (eqb A x)) (cross (m * up e) (n' * up d) (down e) (down d) n h.1 k.1) (eqb_refl A))
    (one_sign t A (λ q. ap (λ (x : ℕ). x * down d) (no_size m (up e) n (down e) 1024 (zero-lt-suc 1023) h.1 (z (sym k.0 ∙ q))) ∙ zero-mul (down d))))

-- .. and the other way round
has_eq : (x : Float) (m : ℕ) (e : ℤ) (n : ℕ) → HasValue x false n 1024 → eq x (fin false m e) ≡ true → m * up e * 1024 ≡ n * down e
unfolding eq
has_eq nan m e n h k = absurd h
has_eq (inf _) m e n h k = absurd h
has_eq (fin s' m' d) m e n h k =
    let t : T (eqb (m' * up d * down e) (m * up e * down d)) = and_l (eqb (m' * up d * down e) (m * up e * down d)) (beq s' false || eqb (m' * up d * down e) 0) (subst T (sym k) tt) in
    let q : m' * up d * down e ≡ m * up e * down d = eqb→eq _ _ t in
    eq_of_mul-eq-mul_right (down d) (down_pos d) (m * up e * 1024) (n * down e)
    (mul_right_comm (m * up e) 1024 (down d) ∙ ap (λ (x : ℕ). x * 1024) (sym q) ∙ mul_right_comm (m' * up d) (down e) 1024 ∙ ap (λ (x : ℕ). x * down e) h.1 ∙ mul_right_comm n (down d) (down e))

-- an order of two values that are not negative
le_told : (a b : ℕ) (c : Bool) → T (ltb a b || (eqb a b && c)) → a ≤ b
le_told a b c t = by_test (ltb a b) (λ u. omega (arith, ltb-true a b u)) (λ u. by_test (eqb a b) (λ v. omega (arith, eqb-true a b v)) (λ v. absurd (subst T (ap₂ (λ (x y : Bool). x || (y && c)) u v) t)))

-- below 2 ^ 53 and 2 ^ (42 + k) at least: k is 10 at most
few : (m k : ℕ) → m < 2 ^ 53 → 2 ^ 42 * 2 ^ k ≤ m → k ≤ 10
few m k h l = by_test (leb k 10) (λ t. leb-true k 10 t) (λ t. let g : 53 ≤ 42 + k = omega (arith, leb-false k 10 t) in absurd (not-le_of_lt (lt_of_le_of_lt (le_trans (le_of_eq (pow-add 2 42 k)) l) h) (pow_mono g)))

digits_few : (s : Bool) (m : ℕ) (e : ℤ) → T (fits binary64 (fin s m e)) → m < 2 ^ 53
unfolding fits
digits_few s zero e t = pow_pos 53
digits_few s (suc m) e t =
    ltb→lt (suc m) (2 ^ 53)
    (and_r (eqb (suc m % 2) 1) (ltb (suc m) (2 ^ 53))
    (and_l (eqb (suc m % 2) 1 && ltb (suc m) (2 ^ 53)) (leb (down e) (2 ^ 1074))
    (and_l (eqb (suc m % 2) 1 && ltb (suc m) (2 ^ 53) && leb (down e) (2 ^ 1074)) (ltb (suc m * up e) (2 ^ 1024 * down e)) t)))

ten : (k : ℕ) → k ≤ 10 → 10 ≡ 10 - k + k
ten k h = omega arith

whole_at : (m : ℕ) (e : ℤ) → m < 2 ^ 53 → 2 ^ 42 * down e ≤ m * up e → (v : ℕ) × (m * up e * 1024 ≡ v * down e)
whole_at m (pos k) h l = (m * 2 ^ k * 1024, sym (mul-one (m * 2 ^ k * 1024)))
whole_at m (negsuc k) h l =
    let j : suc k ≤ 10 = few m (suc k) h (le_trans l (le_of_eq (mul-one m))) in (
      m * 2 ^ (10 - suc k),
      ap (λ (x : ℕ). x * 1024) (mul-one m) ∙ ap (λ (x : ℕ). m * 2 ^ x) (ten (suc k) j) ∙ ap (λ (x : ℕ). m * x) (pow-add 2 (10 - suc k) (suc k)) ∙ sym (mul_assoc m (2 ^ (10 - suc k)) (2 ^ suc k)),
    )

no_zero : (a b : ℕ) → 0 < a → T (false || (eqb a b && (false || eqb a 0))) → ⊥
no_zero a b h t = omega (arith, h, eqb→eq a 0 (and_r (eqb a b) (eqb a 0) t))

-- a float from 2 ^ 42 on is a whole number of 1,024ths
whole_from : (x : Float) → T (fits binary64 x) → T (le large x) → T (le x (fin false 1 (pos 43))) → (v : ℕ) × HasValue x false v 1024 × (2 ^ 52 ≤ v) × (v ≤ 2 ^ 53)
unfolding le lt eq
whole_from nan f a b = absurd a
whole_from (inf true) f a b = absurd a
whole_from (inf false) f a b = absurd b
whole_from (fin true m e) f a b = absurd (no_zero (1 * 2 ^ 42 * down e) (m * up e * 1) (mul-pos (pow_pos 42) (down_pos e)) a)
whole_from (fin false m e) f a b =
    let l : 2 ^ 42 * down e ≤ m * up e = le_trans (le_told (1 * 2 ^ 42 * down e) (m * up e * 1) _ a) (le_of_eq (mul-one (m * up e))) in
    let g : m * up e ≤ 2 ^ 43 * down e = le_trans (le_of_eq (sym (mul-one (m * up e)))) (le_told (m * up e * 1) (1 * 2 ^ 43 * down e) _ b) in
    let w = whole_at m e (digits_few false m e f) l in (
      w.0,
      (refl, w.1),
      le_of_mul-le-mul_right (le_trans (le_of_eq (sym (mul_right_comm (2 ^ 42) (down e) 1024))) (le_trans (mul-le-mul_right 1024 l) (le_of_eq w.1))) (down_pos e),
      le_of_mul-le-mul_right (le_trans (le_of_eq (sym w.1)) (le_trans (mul-le-mul_right 1024 g) (le_of_eq (mul_right_comm (2 ^ 43) (down e) 1024)))) (down_pos e),
    )

-- ---- adding 2 ^ 42 and taking it away again
abbrev there_and_back : Float → Float
there_and_back x = sub binary64 (add binary64 x large) large

near : (n : ℕ) → n ≤ 2 ^ 52 - 1 → n + 2 ^ 52 < 2 ^ 53
near n h = omega arith

-- a whole number of 1,024ths comes back
back_has : (n : ℕ) → n ≤ 2 ^ 52 → (y : Float) → HasValue y false (n + 2 ^ 52) 1024 → HasValue (sub binary64 y large) false n 1024
unfolding sub neg sum
back_has n h y v =
    let e : n + 2 ^ 52 - 2 ^ 52 ≡ n = omega arith in
    let d : ltb (n + 2 ^ 52) (2 ^ 52) ≡ false = le-ltb (n + 2 ^ 52) (2 ^ 52) (omega arith) in
    subst (λ (x : Float). HasValue x false n 1024)
    (sym (add_has y (fin true 1 (pos 42)) false true (n + 2 ^ 52) (2 ^ 52) v less_has ∙ ap (λ (t : Bool). cond t (round binary64 true (2 ^ 52 - (n + 2 ^ 52)) 1024) (round binary64 false (n + 2 ^ 52 - 2 ^ 52) 1024)) d ∙ ap (λ (k : ℕ). round binary64 false k 1024) e))
    (exact_size false n (omega arith))

add_large : (x : Float) (s : Bool) (n : ℕ) → n ≤ 2 ^ 52 - 1 → HasValue x s n 1024 → (s ≡ true → n ≡ 0) → HasValue (add binary64 x large) false (n + 2 ^ 52) 1024
unfolding sum
add_large x false n h v z = subst (λ (y : Float). HasValue y false (n + 2 ^ 52) 1024) (sym (add_has x large false false n (2 ^ 52) v large_has)) (exact_size false (n + 2 ^ 52) (near n h))
add_large x true n h v z =
    subst (λ (k : ℕ). HasValue x true k 1024 → HasValue (add binary64 x large) false (k + 2 ^ 52) 1024) (sym (z refl))
    (λ w. subst (λ (y : Float). HasValue y false (2 ^ 52) 1024) (sym (add_has x large true false 0 (2 ^ 52) w large_has)) (exact_size false (2 ^ 52) (lit< tt))) v

comes_back : (x : Float) (s : Bool) (n : ℕ) → n ≤ 2 ^ 52 - 1 → HasValue x s n 1024 → (s ≡ true → n ≡ 0) → eq (there_and_back x) x ≡ true
comes_back x s n h v z = eq_has (there_and_back x) x s n (back_has n (omega arith) (add binary64 x large) (add_large x s n h v z)) v z

-- what comes back is one
large_is : round binary64 false (2 ^ 42) 1 ≡ large
unfolding round
large_is = refl

double_is : round binary64 false (2 ^ 43) 1 ≡ fin false 1 (pos 43)
unfolding round
double_is = refl

module _ (m : ℕ) (e : ℤ) (h : m * up e ≤ 2 ^ 42 * down e) where
  abbrev N : ℕ
  N = m * up e * 1 + 1 * 2 ^ 42 * down e

  abbrev D : ℕ
  D = down e * 1

  sum_of : add binary64 (fin false m e) large ≡ round binary64 false N D
  unfolding add sum
  sum_of = refl

  D_pos : 0 < D
  D_pos = mul-pos (down_pos e) (zero-lt-suc 0)

  not_lower : T (le large (round binary64 false N D))
  not_lower = subst (λ (x : Float). T (le x (round binary64 false N D))) large_is (round_mono binary64 (2 ^ 42) 1 N D (zero-lt-suc 0) D_pos (omega arith))

  not_higher : T (le (round binary64 false N D) (fin false 1 (pos 43)))
  not_higher = subst (λ (x : Float). T (le (round binary64 false N D) x)) double_is (round_mono binary64 N D (2 ^ 43) 1 D_pos (zero-lt-suc 0) (omega arith))

  only_whole : eq (there_and_back (fin false m e)) (fin false m e) ≡ true → (n : ℕ) × (m * up e * 1024 ≡ n * down e)
  only_whole q =
      let w = whole_from (round binary64 false N D) (round-fits binary64 false N D) not_lower not_higher in
      let k : w.0 ≡ w.0 - 2 ^ 52 + 2 ^ 52 = omega (arith, w.2) in
      let v : HasValue (add binary64 (fin false m e) large) false (w.0 - 2 ^ 52 + 2 ^ 52) 1024 = subst (λ (x : Float). HasValue x false (w.0 - 2 ^ 52 + 2 ^ 52) 1024) (sym sum_of) (subst (λ (n : ℕ). HasValue (round binary64 false N D) false n 1024) k w.1) in
      let b : HasValue (there_and_back (fin false m e)) false (w.0 - 2 ^ 52) 1024 = back_has (w.0 - 2 ^ 52) (omega (arith, w.3)) (add binary64 (fin false m e) large) v in (
        w.0 - 2 ^ 52,
        has_eq (there_and_back (fin false m e)) m e (w.0 - 2 ^ 52) b q,
      )

-- ---- the test, whole
abbrev pub unsigned : Float → Float
unsigned x = cond (lt x (fin false 0 (pos 0))) (neg x) x

-- without its sign a float is no longer negative, but for -0
sign_off : (s : Bool) (m : ℕ) (e : ℤ) → (t : Bool) × (unsigned (fin s m e) ≡ fin t m e) × (t ≡ true → m ≡ 0)
unfolding lt neg
sign_off false m e = (false, ap (λ (t : Bool). cond t (fin true m e) (fin false m e)) (le-ltb (m * up e * 1) (0 * down e) (le_trans (le_of_eq (zero-mul (down e))) zero-le)), λ q. absurd (true≢false (sym q)))
sign_off true m e =
    by_test (ltb 0 (m * up e * 1 + 0 * down e))
    (λ t. (false, ap (λ (t : Bool). cond t (fin false m e) (fin true m e)) t, λ q. absurd (true≢false (sym q))))
    (λ t. (true, ap (λ (t : Bool). cond t (fin false m e) (fin true m e)) t, λ q. eq_of_mul-eq-mul_right (up e) (up_pos e) m 0 (none (m * up e) (0 * down e) (ltb-false 0 (m * up e * 1 + 0 * down e) t) ∙ sym (zero-mul (up e)))))
  where
    none : (a b : ℕ) → a * 1 + b ≤ 0 → a ≡ 0
    none a b h = omega arith

-- the order of a float without its sign and of 2 ^ k
size_in : (k : ℕ) (t : Bool) (m : ℕ) (e : ℤ) → (t ≡ true → m ≡ 0) → le (fin t m e) (fin false 1 (pos k)) ≡ true → m * up e ≤ 2 ^ k * down e
unfolding le lt eq
size_in k false m e z h = le_trans (le_of_eq (sym (mul-one (m * up e)))) (le_trans (le_told (m * up e * 1) (1 * 2 ^ k * down e) _ (subst T (sym h) tt)) (le_of_eq (ap (λ (x : ℕ). x * down e) (one-mul (2 ^ k)))))
size_in k true m e z h = le_trans (le_of_eq (ap (λ (x : ℕ). x * up e) (z refl) ∙ zero-mul (up e))) zero-le

in_size : (k : ℕ) (t : Bool) (m : ℕ) (e : ℤ) → (t ≡ true → m ≡ 0) → m * up e ≤ 2 ^ k * down e → le (fin t m e) (fin false 1 (pos k)) ≡ true
unfolding le lt eq
in_size k false m e z h =
    by_test (ltb (m * up e * 1) (1 * 2 ^ k * down e)) (λ t. rw t refl)
    (λ t. let q : m * up e * 1 ≡ 1 * 2 ^ k * down e = omega (arith, h, ltb-false (m * up e * 1) (1 * 2 ^ k * down e) t) in rw (t, eq-eqb (m * up e * 1) (1 * 2 ^ k * down e) q) refl)
in_size k true m e z h = rw (lt-ltb 0 (m * up e * 1 + 1 * 2 ^ k * down e) (lt_of_lt_of_le (mul-pos (mul-pos (zero-lt-suc 0) (pow_pos k)) (down_pos e)) (omega arith))) refl

less_in : (k : ℕ) (t : Bool) (m : ℕ) (e : ℤ) → (t ≡ true → m ≡ 0) → lt (fin t m e) (fin false 1 (pos k)) ≡ true → m * up e < 2 ^ k * down e
unfolding lt
less_in k false m e z h = omega (arith, ltb-true (m * up e * 1) (1 * 2 ^ k * down e) h)
less_in k true m e z h = subst (λ (x : ℕ). x < 2 ^ k * down e) (sym (ap (λ (x : ℕ). x * up e) (z refl) ∙ zero-mul (up e))) (mul-pos (pow_pos k) (down_pos e))

less_out : (k : ℕ) (t : Bool) (m : ℕ) (e : ℤ) → (t ≡ true → m ≡ 0) → lt (fin t m e) (fin false 1 (pos k)) ≡ false → 2 ^ k * down e ≤ m * up e
unfolding lt
less_out k false m e z h = omega (arith, ltb-false (m * up e * 1) (1 * 2 ^ k * down e) h)
less_out k true m e z h = absurd (true≢false (sym (lt-ltb 0 (m * up e * 1 + 1 * 2 ^ k * down e) (lt_of_lt_of_le (mul-pos (mul-pos (zero-lt-suc 0) (pow_pos k)) (down_pos e)) (omega arith))) ∙ h))

-- 2 ^ 10 units to one
units_le : (k a d : ℕ) → a ≤ 2 ^ k * d → a * 1024 ≤ 2 ^ (k + 10) * d
units_le k a d h = le_trans (mul-le-mul_right 1024 h) (le_of_eq (mul_right_comm (2 ^ k) d 1024 ∙ ap (λ (x : ℕ). x * d) (sym (pow-add 2 k 10))))

le_units : (k a d : ℕ) → a * 1024 ≤ 2 ^ (k + 10) * d → a ≤ 2 ^ k * d
le_units k a d h = le_of_mul-le-mul_right (le_trans h (le_of_eq (ap (λ (x : ℕ). x * d) (pow-add 2 k 10) ∙ sym (mul_right_comm (2 ^ k) d 1024)))) (zero-lt-suc 1023)

units_true : (most : ℕ) (s : Bool) (m : ℕ) (e : ℤ) (n : ℕ) → m * up e * 1024 ≡ n * down e → m * up e * 1024 ≤ most * down e → is_units most (fin s m e) ≡ true
unfolding is_units
units_true most s m e n p h =
    is_true _
    (and_i (eqb (m * up e * 1024 % down e) 0) (leb (m * up e * 1024) (most * down e))
    (subst (λ (x : ℕ). T (eqb x 0)) (sym (ap (λ (x : ℕ). x % down e) p ∙ mul-mod_left n (down e))) (eqb_refl 0))
    (le→leb (m * up e * 1024) (most * down e) h))

units_in : (most : ℕ) (s : Bool) (m : ℕ) (e : ℤ) → is_units most (fin s m e) ≡ true → m * up e * 1024 ≤ most * down e
unfolding is_units
units_in most s m e h = leb→le (m * up e * 1024) (most * down e) (and_r (eqb (m * up e * 1024 % down e) 0) (leb (m * up e * 1024) (most * down e)) (subst T (sym h) tt))

nothing : (most : ℕ) (s : Bool) (m : ℕ) (e : ℤ) → m ≡ 0 → is_units most (fin s m e) ≡ true
nothing most s m e z =
    let q : m * up e ≡ 0 = ap (λ (x : ℕ). x * up e) z ∙ zero-mul (up e) in
    units_true most s m e 0 (ap (λ (x : ℕ). x * 1024) q ∙ sym (zero-mul (down e))) (le_trans (le_of_eq (ap (λ (x : ℕ). x * 1024) q)) zero-le)

-- a size below 2 ^ 42: the test by adding 2 ^ 42 tells multiples
test_at : (most : ℕ) (s t : Bool) (m : ℕ) (e : ℤ) → (t ≡ true → m ≡ 0) → m * up e < 2 ^ 42 * down e → m * up e * 1024 ≤ most * down e
    → eq (there_and_back (fin t m e)) (fin t m e) ≡ is_units most (fin s m e)
test_at most s t m e z h b =
    by_test (is_units most (fin s m e)) (λ u. yes u ∙ sym u)
    (λ u. by_test (eq (there_and_back (fin t m e)) (fin t m e)) (λ v. absurd (true≢false (sym (whole_so t z v) ∙ u))) (λ v. v ∙ sym u))
  where
    small : (n : ℕ) → m * up e * 1024 ≡ n * down e → n ≤ 2 ^ 52 - 1
    small n p =
        let l : n < 2 ^ 52 = lt_of_mul-lt-mul_right (down e) (subst (λ (x : ℕ). x < 2 ^ 52 * down e) p (lt_of_lt_of_le (mul-lt-mul_of_pos_right h (zero-lt-suc 1023)) (le_of_eq (mul_right_comm (2 ^ 42) (down e) 1024)))) in
        omega arith

    yes : is_units most (fin s m e) ≡ true → eq (there_and_back (fin t m e)) (fin t m e) ≡ true
    yes u =
        let w = sized (fin s m e) most u in
        comes_back (fin t m e) t w.1 (small w.1 w.2.1) (refl, w.2.1)
        (λ q. eq_of_mul-eq-mul_right (down e) (down_pos e) w.1 0 (sym w.2.1 ∙ ap (λ (x : ℕ). x * up e * 1024) (z q) ∙ ap (λ (x : ℕ). x * 1024) (zero-mul (up e)) ∙ sym (zero-mul (down e))))

    whole_so : (t : Bool) → (t ≡ true → m ≡ 0) → eq (there_and_back (fin t m e)) (fin t m e) ≡ true → is_units most (fin s m e) ≡ true
    whole_so true y v = nothing most s m e (y refl)
    whole_so false y v = let w = only_whole m e (le_of_lt h) v in units_true most s m e w.0 w.1 b

-- ---- at most 2 ^ 11

small_enough : (m : ℕ) (e : ℤ) → m * up e ≤ 2 ^ 11 * down e → m * up e < 2 ^ 42 * down e
small_enough m e h = lt_of_le_of_lt h (mul-lt-mul_of_pos_right (lit< tt) (down_pos e))

pub in_range : (x : Float) → le (unsigned x) (fin false 1 (pos 11)) ≡ true → eq (there_and_back (unsigned x)) (unsigned x) ≡ is_units 2097152 x
unfolding lt le eq neg is_units
in_range nan h = absurd (subst T (sym h) tt)
in_range (inf true) h = absurd (subst T (sym h) tt)
in_range (inf false) h = absurd (subst T (sym h) tt)
in_range (fin s m e) h =
    let w = sign_off s m e in
    let b : m * up e ≤ 2 ^ 11 * down e = size_in 11 w.0 m e w.2 (subst (λ (x : Float). le x (fin false 1 (pos 11)) ≡ true) w.1 h) in
    subst (λ (x : Float). eq (there_and_back x) x ≡ is_units 2097152 (fin s m e)) (sym w.1) (test_at 2097152 s w.0 m e w.2 (small_enough m e b) (units_le 11 (m * up e) (down e) b))

pub out_of_range : (x : Float) → le (unsigned x) (fin false 1 (pos 11)) ≡ false → is_units 2097152 x ≡ false
unfolding is_units
out_of_range nan h = refl
out_of_range (inf s) h = refl
out_of_range (fin s m e) h =
    let w = sign_off s m e in
    by_test (is_units 2097152 (fin s m e))
    (λ u. absurd (true≢false (sym (in_size 11 w.0 m e w.2 (le_units 11 (m * up e) (down e) (units_in 2097152 s m e u))) ∙ subst (λ (x : Float). le x (fin false 1 (pos 11)) ≡ false) w.1 h)))
    (λ u. u)

-- ---- at most 2 ^ 43

pub below_large : (x : Float) → lt (unsigned x) (fin false 1 (pos 42)) ≡ true → eq (there_and_back (unsigned x)) (unsigned x) ≡ is_units 9007199254740992 x
unfolding lt neg
below_large nan h = absurd (subst T (sym h) tt)
below_large (inf true) h = absurd (subst T (sym h) tt)
below_large (inf false) h = absurd (subst T (sym h) tt)
below_large (fin s m e) h =
    let w = sign_off s m e in
    let b : m * up e < 2 ^ 42 * down e = less_in 42 w.0 m e w.2 (subst (λ (x : Float). lt x (fin false 1 (pos 42)) ≡ true) w.1 h) in
    subst (λ (x : Float). eq (there_and_back x) x ≡ is_units 9007199254740992 (fin s m e)) (sym w.1)
    (test_at 9007199254740992 s w.0 m e w.2 b (units_le 43 (m * up e) (down e) (le_trans (le_of_lt b) (mul-le-mul_right (down e) (lit≤ tt)))))

pub from_large : (x : Float) → fits binary64 x ≡ true → lt (unsigned x) (fin false 1 (pos 42)) ≡ false → le (unsigned x) (fin false 1 (pos 43)) ≡ is_units 9007199254740992 x
unfolding lt le eq neg is_units
from_large nan f h = refl
from_large (inf true) f h = refl
from_large (inf false) f h = refl
from_large (fin s m e) f h =
    let w = sign_off s m e in
    let b : 2 ^ 42 * down e ≤ m * up e = less_out 42 w.0 m e w.2 (subst (λ (x : Float). lt x (fin false 1 (pos 42)) ≡ false) w.1 h) in
    subst (λ (x : Float). le x (fin false 1 (pos 43)) ≡ is_units 9007199254740992 (fin s m e)) (sym w.1) (at w.0 w.2 b)
  where
    at : (t : Bool) → (t ≡ true → m ≡ 0) → 2 ^ 42 * down e ≤ m * up e → le (fin t m e) (fin false 1 (pos 43)) ≡ is_units 9007199254740992 (fin s m e)
    at t z b =
        by_test (le (fin t m e) (fin false 1 (pos 43)))
        (λ u. let v = whole_at m e (digits_few s m e (subst T (sym f) tt)) b in u ∙ sym (units_true 9007199254740992 s m e v.0 v.1 (units_le 43 (m * up e) (down e) (size_in 43 t m e z u))))
        (λ u.
        by_test (is_units 9007199254740992 (fin s m e))
        (λ v. absurd (true≢false (sym (in_size 43 t m e z (le_units 43 (m * up e) (down e) (units_in 9007199254740992 s m e v))) ∙ u)))
        (λ v. u ∙ sym v))

-- ---- the float of a whole number of 1,024ths is one

has_units : (x : Float) (s : Bool) (n most : ℕ) → HasValue x s n 1024 → n ≤ most → is_units most x ≡ true
has_units nan s n most h l = absurd h
has_units (inf _) s n most h l = absurd h
has_units (fin t m e) s n most h l = units_true most t m e n h.1 (le_trans (le_of_eq h.1) (mul-le-mul_right (down e) l))

pub float_units : (z : ℤ) (most : ℕ) → nat_abs z < 2 ^ 53 → nat_abs z ≤ most → is_units most (float_of z) ≡ true
float_units z most h l = has_units (float_of z) (sign_of z) (nat_abs z) most (exactly z h) l

-- how many 1,024ths a float of such a value is
units_has : (x : Float) (s : Bool) (n : ℕ) → HasValue x s n 1024 → whole_units x ≡ cond s (neg_ℤ (pos n)) (pos n)
unfolding whole_units
units_has nan s n h = absurd h
units_has (inf _) s n h = absurd h
units_has (fin t m e) s n h = ap₂ (λ (b : Bool) (i : ℕ). cond b (neg_ℤ (pos i)) (pos i)) h.0 (ap (λ (i : ℕ). i / down e) h.1 ∙ mul-div_cancel n (down_pos e))

sign_back : (z : ℤ) → cond (sign_of z) (neg_ℤ (pos (nat_abs z))) (pos (nat_abs z)) ≡ z
unfolding sign_of
sign_back (pos n) = refl
sign_back (negsuc n) = refl

-- .. and of the float of z 1,024ths it is z
pub units_float : (z : ℤ) → nat_abs z < 2 ^ 53 → whole_units (float_of z) ≡ z
units_float z h = units_has (float_of z) (sign_of z) (nat_abs z) (exactly z h) ∙ sign_back z
