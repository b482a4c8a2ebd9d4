-- The decimal digits of a number spell it: a number that is printed is read back as itself.
-- Assumes nothing.
use mathlib.Core.Path.{◌≡◌, refl, ◌∙◌}
use mathlib.Core.Bool.{true, ◌&&◌}
use mathlib.Core.List.{List, [], ◌∷◌, ◌++◌}
use Prim.Native.Nat.{ℕ, zero, suc, ◌+◌, ◌-◌, ◌*◌, ◌/◌, ◌%◌, ◌^◌, ◌≤◌, ◌<◌}
use native.Mathlib.Nat.{pow-suc}
use native.Mathlib.Omega.{arith}
use lib.Dec.{ltb}
use lib.ListN.{length, length-append}
use borrow.Author.Tests.{ltb-true, ltb-false, lt-ltb, le-leb}
use Rattle.lists.proofs.Cases.{by_test}
use Rattle.decimals.specs.Decimals.{digit, decimal_in, decimal_digits}
use Rattle.decimals.proofs.DecimalLaws.{digit_byte, digits_low, digits_high}
use Rattle.text.specs.Words.{all_digits, value_from, spelled, is_number}

-- One byte more: the number that is spelled, and whether all are digits.
pub value_snoc : (n : ℕ) (w : List ℕ) (b : ℕ) → value_from n (w ++ (b ∷ [])) ≡ 10 * value_from n w + (b - 48)
unfolding value_from
value_snoc n [] b = refl
value_snoc n (x ∷ w) b = value_snoc (10 * n + (x - 48)) w b

pub digits_snoc : (w : List ℕ) (b : ℕ) → all_digits (w ++ (b ∷ [])) ≡ (all_digits w && digit b)
unfolding all_digits
digits_snoc [] b = by_test (digit b) (λ t. rw t) (λ t. rw t)
digits_snoc (x ∷ w) b = by_test (digit x) (λ t. rw t (digits_snoc w b)) (λ t. rw t)

-- What is shown of the digits of n in f places.
record Spells (f n : ℕ) (w : List ℕ) : Type 0 where
  value : value_from 0 w ≡ n
  digits : all_digits w ≡ true
  some : 1 ≤ length w
  few : length w ≤ f

one_spells : (f n : ℕ) → n < 10 → Spells (suc f) n (decimal_in (suc f) n)
unfolding value_from all_digits
one_spells f n low = rw (digits_low f n low) (record { value = omega arith; digits = rw (digit_byte n low); some = omega arith; few = omega arith })

spells : (f n : ℕ) → n < 10 ^ suc f → Spells (suc f) n (decimal_in (suc f) n)
spells zero n h = one_spells zero n (omega arith)
spells (suc f) n h =
    by_test (ltb n 10) (λ t. one_spells (suc f) n (ltb-true n 10 t))
    (λ t.
    let before = decimal_in (suc f) (n / 10) in
    let s = spells f (n / 10) (omega (arith, pow-suc 10 (suc f))) in
    let l = length-append before ((48 + n % 10) ∷ []) in
    rw (digits_high (suc f) n (ltb-false n 10 t))
    (record {
      value = value_snoc 0 before (48 + n % 10) ∙ rw s.value (omega arith);
      digits = digits_snoc before (48 + n % 10) ∙ rw (s.digits, digit_byte (n % 10) (omega arith));
      some = omega arith;
      few = omega (arith, s.few);
    }))

-- Of a number of 32 bits: the word is a number, and it is this number.
module _ (n : ℕ) (h : n < 2 ^ 32) where
  ten : Spells 10 n (decimal_digits n)
  unfolding decimal_digits
  ten = spells 9 n (omega arith)

  pub decimal_spelled : spelled (decimal_digits n) ≡ n
  unfolding spelled
  decimal_spelled = ten.value

  pub decimal_number : is_number (decimal_digits n) ≡ true
  unfolding is_number
  decimal_number = rw (ten.digits, le-leb 1 (length (decimal_digits n)) ten.some, le-leb (length (decimal_digits n)) 10 ten.few, decimal_spelled, lt-ltb n (2 ^ 32) h)
