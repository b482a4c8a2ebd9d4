-- The digits of a number: the last one and those before it. Assumes nothing.
use mathlib.Core.Path.{◌≡◌, ap, ◌∙◌}
use mathlib.Core.Bool.{true}
use mathlib.Core.List.{List, [], ◌∷◌, ◌++◌}
use Prim.Native.Nat.{ℕ, zero, suc, ◌+◌, ◌/◌, ◌%◌, ◌^◌, ◌≤◌, ◌<◌}
use native.Mathlib.Nat.{pow-suc}
use native.Mathlib.Omega.{arith}
use lib.Dec.{ltb}
use borrow.Author.Tests.{le-leb, lt-ltb, le-ltb}
use Rattle.lists.proofs.Cases.{by_test}
use Rattle.decimals.specs.Decimals.{digit, decimal_in, decimal_digits}

pub digit_byte : (d : ℕ) → d < 10 → digit (48 + d) ≡ true
unfolding digit
digit_byte d h = rw (le-leb 48 (48 + d) (omega arith), le-leb (48 + d) 57 (omega arith))

-- in any number of places
pub digits_low : (f n : ℕ) → n < 10 → decimal_in (suc f) n ≡ (48 + n) ∷ []
unfolding decimal_in
digits_low f n h = rw (lt-ltb n 10 h)

pub digits_high : (f n : ℕ) → 10 ≤ n → decimal_in (suc f) n ≡ decimal_in f (n / 10) ++ ((48 + n % 10) ∷ [])
unfolding decimal_in
digits_high f n h = rw (le-ltb n 10 h)

-- one place more than the digits need changes nothing
digits_more : (f n : ℕ) → n < 10 ^ suc f → decimal_in (suc f) n ≡ decimal_in (suc (suc f)) n
unfolding decimal_in
digits_more zero n h = let i : n < 10 = omega arith in rw (lt-ltb n 10 i)
digits_more (suc f) n h =
    by_test (ltb n 10) (λ t. rw t)
    (λ t. rw t (ap (λ (l : List ℕ). l ++ ((48 + n % 10) ∷ [])) (digits_more f (n / 10) (omega (arith, pow-suc 10 (suc f))))))

-- of a number of 32 bits
pub decimal_low : (n : ℕ) → n < 10 → decimal_digits n ≡ (48 + n) ∷ []
unfolding decimal_digits
decimal_low n h = digits_low 9 n h

pub decimal_high : (n : ℕ) → 10 ≤ n → n < 2 ^ 32 → decimal_digits n ≡ decimal_digits (n / 10) ++ ((48 + n % 10) ∷ [])
unfolding decimal_digits
decimal_high n h k = digits_high 9 n h ∙ ap (λ (l : List ℕ). l ++ ((48 + n % 10) ∷ [])) (digits_more 8 (n / 10) (omega arith))
