-- The laws of fields, and of bits and their count.
-- Assumes nothing.
use mathlib.Core.Path.{◌≡◌, refl, ap, ◌∙◌}
use mathlib.Core.Logic.{◌≢◌}
use mathlib.Core.List.{List}
use Prim.Native.Nat.{ℕ, suc, ◌+◌, ◌*◌, ◌/◌, ◌%◌, ◌^◌, ◌≤◌, ◌<◌}
use native.Mathlib.Numerals.{add-one}
use native.Mathlib.Omega.{arith}
use lib.Dec.{eqb}
use lib.ListN.{length, get_or}
use lib.Seq.{drop-cons}
use borrow.Author.Tests.{eqb-true, eqb-false}
use Rattle.lists.proofs.Cases.{by_test}
use Rattle.closure.proofs.Numbers.{count_hit, count_miss, count_bound}
use Rattle.records.specs.Fields.{value, field_at}
use Rattle.records.proofs.ReadLaws.{bit_at_lt, bit_at_byte}
use Rattle.records.specs.Record.{bit_at, bits_before}

-- ---- fields

field_more : (r : List ℕ) (p n : ℕ) → p < length r → field_at r p (suc n) ≡ get_or r p 0 + 256 * field_at r (suc p) n
unfolding field_at value
field_more r p n h = rw (drop-cons r p 0 h)

field_none : (r : List ℕ) (p : ℕ) → field_at r p 0 ≡ 0
unfolding field_at value
field_none r p = refl

-- The bytes of a field of two and of four bytes.
pub field_two : (r : List ℕ) (p : ℕ) → p + 2 ≤ length r → get_or r p 0 + 256 * get_or r (p + 1) 0 ≡ field_at r p 2
field_two r p h =
    rw (field_more r p 1 (omega arith), field_more r (suc p) 0 (omega arith), field_none r (suc (suc p)), add-one p) (omega arith)

pub field_four : (r : List ℕ) (p : ℕ) → p + 4 ≤ length r
    → get_or r p 0 + 256 * (get_or r (p + 1) 0 + 256 * (get_or r (p + 2) 0 + 256 * get_or r (p + 3) 0)) ≡ field_at r p 4
field_four r p h =
    let a : p + 2 ≡ suc (suc p) = omega arith in
    let b : p + 3 ≡ suc (suc (suc p)) = omega arith in
    rw (field_more r p 3 (omega arith), field_more r (suc p) 2 (omega arith), field_more r (suc (suc p)) 1 (omega arith), field_more r (suc (suc (suc p))) 0 (omega arith), field_none r (suc (suc (suc (suc p)))), add-one p, a, b) (omega arith)

-- ---- bits

module _ (r : List ℕ) where
  -- One cell more.
  pub bits_more : (c : ℕ) → bits_before r (c + 1) ≡ bits_before r c + bit_at r c
  unfolding bits_before
  bits_more c =
      rw add-one
      (by_test (eqb (bit_at r c) 1) (λ t. count_hit (λ d. eqb (bit_at r d) 1) c t ∙ omega (arith, eqb-true (bit_at r c) 1 t))
      (λ t. let d : bit_at r c ≢ 1 = eqb-false (bit_at r c) 1 t in count_miss (λ d. eqb (bit_at r d) 1) c t ∙ omega (arith, bit_at_lt r c)))

  pub bits_bound : (c : ℕ) → bits_before r c ≤ c
  unfolding bits_before
  bits_bound c = count_bound _ c

  -- The eight cells of byte i, one more and all.
  byte_more : (i k : ℕ) → k < 8 → bits_before r (8 * i + suc k) ≡ bits_before r (8 * i + k) + get_or r (12 + i) 0 / 2 ^ k % 2
  byte_more i k h =
      let e : 8 * i + suc k ≡ 8 * i + k + 1 = omega arith in
      ap (bits_before r) e ∙ bits_more (8 * i + k) ∙ ap (λ x. bits_before r (8 * i + k) + x) (bit_at_byte r i k h)

  pub bits_byte : (i b : ℕ) → b ≡ get_or r (12 + i) 0
      → bits_before r (8 * (i + 1)) ≡ bits_before r (8 * i) + (b % 2 + b / 2 % 2 + b / 4 % 2 + b / 8 % 2 + b / 16 % 2 + b / 32 % 2 + b / 64 % 2 + b / 128 % 2)
  bits_byte i b e =
      let w : 8 * (i + 1) ≡ 8 * i + 8 = omega arith in
      let z : 8 * i ≡ 8 * i + 0 = omega arith in
      rw (e, w)
      (omega (arith, ap (bits_before r) z, byte_more i 0 (omega arith), byte_more i 1 (omega arith), byte_more i 2 (omega arith), byte_more i 3 (omega arith), byte_more i 4 (omega arith), byte_more i 5 (omega arith), byte_more i 6 (omega arith), byte_more i 7 (omega arith)))
