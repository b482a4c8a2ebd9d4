-- What a record that is not damaged has.
-- Assumes nothing.
use mathlib.Core.Path.{◌≡◌}
use mathlib.Core.Bool.{Bool, false, not, ◌||◌}
use mathlib.Core.List.{List}
use Prim.Native.Nat.{ℕ, ◌+◌, ◌-◌, ◌*◌, ◌≤◌, ◌<◌}
use native.Mathlib.Omega.{arith}
use lib.Dec.{eqb}
use lib.ListN.{length}
use borrow.Author.Tests.{eqb-true, eqb-false, eq-eqb, ne_eqb, not-false}
use Rattle.lists.specs.Lists.{consecutive, some_of}
use Rattle.lists.proofs.Lists.{consecutive_in, consecutive_out}
use Rattle.cells.specs.declared.Triple.{Triple}
use Rattle.cells.specs.Grid.{cells}
use Rattle.lists.proofs.Cases.{neither}
use Rattle.lists.proofs.Tests.{some_none, none_some}
use Rattle.records.specs.Fields.{field_at}
use Rattle.records.specs.Record.{bitmap_length, bit_at, bits_before, length_of, damaged}
use Rattle.records.proofs.ReadLaws.{bit_at_lt}

-- The three parts of refusal 11, each the other way round.
pub record Whole (e : Triple) (r : List ℕ) : Type 0 where
  pub sized : length r ≡ length_of (cells e) r
  pub spared : (c : ℕ) → cells e ≤ c → c < 8 * bitmap_length (cells e) → bit_at r c ≡ 0
  pub nonzero : (k : ℕ) → k < bits_before r (cells e) → field_at r (12 + bitmap_length (cells e) + 4 * k) 4 ≡ 0 → ⊥

pub whole_damaged : (e : Triple) (r : List ℕ) → Whole e r → damaged e r ≡ false
unfolding damaged
whole_damaged e r w =
    rw (eq-eqb (length r) (length_of (cells e) r) w.sized, s) n
  where
    s : some_of (λ c. eqb (bit_at r c) 1) (consecutive (cells e) (8 * bitmap_length (cells e) - cells e)) ≡ false
    s = none_some _ _ (λ c k. let b = consecutive_out (cells e) (8 * bitmap_length (cells e) - cells e) k in rw (w.spared c b.0 (omega arith)))

    n : some_of (λ k. eqb (field_at r (12 + bitmap_length (cells e) + 4 * k) 4) 0) (consecutive 0 (bits_before r (cells e))) ≡ false
    n = none_some _ _ (λ k h. let b = consecutive_out 0 (bits_before r (cells e)) h in ne_eqb (field_at r (12 + bitmap_length (cells e) + 4 * k) 4) 0 (w.nonzero k (omega arith)))

pub damaged_whole : (e : Triple) (r : List ℕ) → damaged e r ≡ false → Whole e r
unfolding damaged
damaged_whole e r d =
    let n : ℕ = cells e in
    let spare : ℕ → Bool = λ c. eqb (bit_at r c) 1 in
    let empty : ℕ → Bool = λ k. eqb (field_at r (12 + bitmap_length n + 4 * k) 4) 0 in
    let sp : List ℕ = consecutive n (8 * bitmap_length n - n) in
    let st : List ℕ = consecutive 0 (bits_before r n) in
    let d₁ : (some_of spare sp || some_of empty st) ≡ false = (neither (not (eqb (length r) (length_of n r))) _ d).1 in
    record {
      sized = eqb-true (length r) (length_of n r) (not-false (eqb (length r) (length_of n r)) (neither (not (eqb (length r) (length_of n r))) _ d).0);
      spared = λ c h b.
          let f : bit_at r c ≡ 1 → ⊥ = eqb-false (bit_at r c) 1 (some_none spare sp (neither (some_of spare sp) _ d₁).0 (consecutive_in n (8 * bitmap_length n - n) h (omega arith))) in
          omega (arith, bit_at_lt r c);
      nonzero = λ k h. eqb-false (field_at r (12 + bitmap_length n + 4 * k) 4) 0 (some_none empty st (neither (some_of spare sp) _ d₁).1 (consecutive_in 0 (bits_before r n) (omega arith) (omega arith)));
    }
