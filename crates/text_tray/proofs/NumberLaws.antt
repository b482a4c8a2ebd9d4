-- A number after a space. Assumes nothing.
use mathlib.Core.Path.{◌≡◌, refl, sym, ap}
use mathlib.Core.List.{List, [], ◌∷◌, ◌++◌, append_assoc, append-nil}
use lib.ListN.{length, get_or, take}
use lib.Seq.{take-suc, take_all}
use native.Mathlib.Numerals.{add-one}
use Prim.Native.Nat.{ℕ, ◌+◌, ◌/◌, ◌%◌, ◌^◌, ◌≤◌, ◌<◌}
use native.Mathlib.Omega.{arith}
use Rattle.decimals.specs.Decimals.{decimal_digits}
use Rattle.decimals.proofs.DecimalLaws.{decimal_low, decimal_high}
use Rattle.text.specs.Listing.{spaced}
use Rattle.text_tray.specs.Sunk.{State, sunk}
use Rattle.text_tray.proofs.SinkLaws.{sunk_more}

pub spaced_one : (n : ℕ) → spaced (n ∷ []) ≡ (32 ∷ []) ++ decimal_digits n
unfolding spaced
spaced_one n = append-nil _

pub spaced_put : (n : ℕ) (s t u : State) → t ≡ sunk s (32 ∷ []) → u ≡ sunk t (decimal_digits n) → u ≡ sunk s (spaced (n ∷ []))
spaced_put n s t u p q = sunk_more s t u _ _ p q _ (spaced_one n)

-- The last digit after those before it.
module _ (n : ℕ) (s t : State) where
  pub decimal_put_low : n < 10 → t ≡ sunk s ((48 + n % 10) ∷ []) → t ≡ sunk s (decimal_digits n)
  decimal_put_low h p = let e : n % 10 ≡ n = omega arith in rw (decimal_low n h) (rw e at p)

  pub decimal_put_high : (u : State) → 10 ≤ n → n < 2 ^ 32 → u ≡ sunk s (decimal_digits (n / 10)) → t ≡ sunk u ((48 + n % 10) ∷ []) → t ≡ sunk s (decimal_digits n)
  decimal_put_high u h k p q = sunk_more s u t _ _ p q _ (decimal_high n h k)

-- ---- numbers, each after a space

spaced_append : (a b : List ℕ) → spaced (a ++ b) ≡ spaced a ++ spaced b
unfolding spaced
spaced_append [] b = refl
spaced_append (n ∷ a) b = rw (spaced_append a b) (ap (λ (l : List ℕ). 32 ∷ l) (sym (append_assoc (decimal_digits n) (spaced a) (spaced b))))

row_more : (r : List ℕ) (i : ℕ) → i < length r → spaced (take (i + 1) r) ≡ spaced (take i r) ++ spaced (get_or r i 0 ∷ [])
row_more r i h = rw (add-one i, take-suc r i 0 h) (spaced_append (take i r) (get_or r i 0 ∷ []))

module _ (s t : State) (r : List ℕ) (i : ℕ) (p : t ≡ sunk s (spaced (take i r))) where
  pub row_next : (u : State) → u ≡ sunk t (spaced (get_or r i 0 ∷ [])) → i < length r → u ≡ sunk s (spaced (take (i + 1) r))
  row_next u q h = sunk_more s t u _ _ p q _ (row_more r i h)

  pub row_all : length r ≤ i → t ≡ sunk s (spaced r)
  row_all h = rw (take_all i r h) at p

pub row_start : (s : State) → s ≡ sunk s (spaced [])
unfolding spaced sunk
row_start s = refl
