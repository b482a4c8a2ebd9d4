-- The bits, the count of standing bits and the numbers of any record.
-- Assumes nothing.
use mathlib.Core.Path.{◌≡◌}
use mathlib.Core.List.{List}
use Prim.Native.Nat.{ℕ, suc, ◌+◌, ◌*◌, ◌/◌, ◌%◌, ◌^◌, ◌≤◌, ◌<◌}
use native.Mathlib.Omega.{arith}
use lib.Dec.{eqb}
use lib.ListN.{length, get_or}
use borrow.Author.Tests.{eqb-true, eqb-false}
use Rattle.lists.proofs.Cases.{by_test}
use Rattle.lists.proofs.Lists.{length-tabulate, get_or_tabulate}
use Rattle.closure.proofs.Numbers.{count_hit, count_miss, count_mono}
use Rattle.records.specs.Fields.{field_at}
use Rattle.records.specs.Record.{bitmap_length, bit_at, bits_before, number_of, decode_record}
use Rattle.records.proofs.FieldLaws.{EntriesBelow, field_four}

pub bit_at_lt : (r : List ℕ) (c : ℕ) → bit_at r c < 2
unfolding bit_at
bit_at_lt r c = omega arith

pub by_bit {ℓ} : {C : Type ℓ} (r : List ℕ) (c : ℕ) → (bit_at r c ≡ 0 → C) → (bit_at r c ≡ 1 → C) → C
by_bit r c f g =
    by_test (eqb (bit_at r c) 1) (λ t. g (eqb-true (bit_at r c) 1 t))
    (λ t. let d : bit_at r c ≡ 1 → ⊥ = eqb-false (bit_at r c) 1 t in f (omega (arith, bit_at_lt r c)))

pub number_off : (n : ℕ) (r : List ℕ) (c : ℕ) → bit_at r c ≡ 0 → number_of n r c ≡ 0
unfolding number_of
number_off n r c h = rw h

pub number_on : (n : ℕ) (r : List ℕ) (c : ℕ) → bit_at r c ≡ 1 → number_of n r c ≡ field_at r (12 + bitmap_length n + 4 * bits_before r c) 4
unfolding number_of
number_on n r c h = rw h

pub bits_off : (r : List ℕ) (c : ℕ) → bit_at r c ≡ 0 → bits_before r (suc c) ≡ bits_before r c
unfolding bits_before
bits_off r c h = count_miss (λ d. eqb (bit_at r d) 1) c (rw h)

pub bits_on : (r : List ℕ) (c : ℕ) → bit_at r c ≡ 1 → bits_before r (suc c) ≡ suc (bits_before r c)
unfolding bits_before
bits_on r c h = count_hit (λ d. eqb (bit_at r d) 1) c (rw h)

pub bits_mono : (r : List ℕ) (c d : ℕ) → c ≤ d → bits_before r c ≤ bits_before r d
unfolding bits_before
bits_mono r c d h = count_mono (λ i. eqb (bit_at r i) 1) c d h

pub length-decode : (n : ℕ) (r : List ℕ) → length (decode_record n r) ≡ n
unfolding decode_record
length-decode n r = length-tabulate n (number_of n r)

pub decode_at : (n : ℕ) (r : List ℕ) (c : ℕ) → c < n → get_or (decode_record n r) c 0 ≡ number_of n r c
unfolding decode_record
decode_at n r c h = get_or_tabulate n (number_of n r) c h

pub decode_numbers : (n : ℕ) (r : List ℕ) → EntriesBelow 256 r → EntriesBelow 4294967296 (decode_record n r)
decode_numbers n r b c h =
    rw (decode_at n r c (omega (arith, length-decode n r)))
    (by_bit r c (λ z. rw (number_off n r c z) (omega arith)) (λ z. rw (number_on n r c z) (field_four r (12 + bitmap_length n + 4 * bits_before r c) b)))

pub bit_at_byte : (r : List ℕ) (i k : ℕ) → k < 8 → bit_at r (8 * i + k) ≡ get_or r (12 + i) 0 / 2 ^ k % 2
unfolding bit_at
bit_at_byte r i k h =
    let d : (8 * i + k) / 8 ≡ i = omega arith in
    let s : (8 * i + k) % 8 ≡ k = omega arith in
    rw (d, s)
