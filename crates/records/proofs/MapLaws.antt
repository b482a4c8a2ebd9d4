-- The bit map and the listed numbers of a map.
-- Assumes nothing.
use mathlib.Core.Path.{◌≡◌, refl, ap, ◌∙◌}
use mathlib.Core.Bool.{Bool}
use mathlib.Core.List.{List, [], ◌∷◌, ◌++◌, map, append_assoc}
use Prim.Native.Nat.{ℕ, zero, suc, ◌+◌, ◌*◌, ◌/◌, ◌%◌, ◌^◌, ◌≤◌, ◌<◌}
use native.Mathlib.Omega.{arith}
use lib.Dec.{eqb}
use lib.ListN.{length, get_or, take, drop, length-append, length-take, length-map, get_or-map}
use lib.Seq.{get_or-take, get_or-drop, take-suc, split_at}
use borrow.Author.Tests.{eqb-true, eqb-false, eq-eqb, ne_eqb}
use Rattle.lists.proofs.Cases.{by_test, picked}
use Rattle.lists.proofs.Lists.{length-tabulate, get_or_tabulate}
use Rattle.closure.specs.Numbered.{count_below}
use Rattle.records.specs.Fields.{bytes}
use Rattle.records.specs.Record.{bit, map_byte, bitmap_length, bitmap, listed}
use Rattle.records.proofs.FieldLaws.{EntriesBelow, below_nil, below_append, below_bytes, packed_bit, packed_byte}

-- ---- the bit of a number

pub by_zero {ℓ} : {C : Type ℓ} (v : ℕ) → (v ≡ 0 → C) → ((v ≡ 0 → ⊥) → C) → C
by_zero v f g = by_test (eqb v 0) (λ t. f (eqb-true v 0 t)) (λ t. g (eqb-false v 0 t))

pub bit_zero : (v : ℕ) → v ≡ 0 → bit v ≡ 0
unfolding bit
bit_zero v h = rw (eq-eqb v 0 h)

pub bit_one : (v : ℕ) → (v ≡ 0 → ⊥) → bit v ≡ 1
unfolding bit
bit_one v h = rw (ne_eqb v 0 h)

bit_lt : (v : ℕ) → bit v < 2
bit_lt v = by_zero v (λ z. omega (arith, bit_zero v z)) (λ z. omega (arith, bit_one v z))

-- ---- the bit map

bit_at : (l : List ℕ) (k : ℕ) → get_or (map bit l) k 0 ≡ bit (get_or l k 0)
unfolding bit
bit_at l k = get_or-map bit l k 0

bits_below : (l : List ℕ) → EntriesBelow 2 (map bit l)
bits_below l k h = rw bit_at (bit_lt (get_or l k 0))

pub map-byte_bit : (m : List ℕ) (i k : ℕ) → k < 8 → map_byte m i / 2 ^ k % 2 ≡ bit (get_or m (8 * i + k) 0)
unfolding map_byte
map-byte_bit m i k h = rw (packed_bit (map bit (take 8 (drop (8 * i) m))) (bits_below (take 8 (drop (8 * i) m))) k, bit_at, get_or-take, get_or-drop)

pub map-byte_lt : (m : List ℕ) (i : ℕ) → map_byte m i < 256
unfolding map_byte
map-byte_lt m i =
    let l : List ℕ = take 8 (drop (8 * i) m) in
    packed_byte (map bit l) (bits_below l) (omega (arith, length-map l bit, length-take 8 (drop (8 * i) m)))

pub length-bitmap : (m : List ℕ) → length (bitmap m) ≡ bitmap_length (length m)
unfolding bitmap
length-bitmap m = length-tabulate (bitmap_length (length m)) (map_byte m)

pub bitmap_at : (m : List ℕ) (i : ℕ) → i < bitmap_length (length m) → get_or (bitmap m) i 0 ≡ map_byte m i
unfolding bitmap
bitmap_at m i h = get_or_tabulate (bitmap_length (length m)) (map_byte m) i h

pub below_bitmap : (m : List ℕ) → EntriesBelow 256 (bitmap m)
below_bitmap m k h = rw (bitmap_at m k (omega (arith, length-bitmap m))) (map-byte_lt m k)

-- ---- the listed numbers

pub listed_append : (l k : List ℕ) → listed (l ++ k) ≡ listed l ++ listed k
unfolding listed
listed_append [] k = refl
listed_append (v ∷ l) k = by_test (eqb v 0) (λ t. rw (t, listed_append l k)) (λ t. rw (t, listed_append l k, append_assoc))

-- one more number
pub listed_suc : (m : List ℕ) (c : ℕ) → c < length m → listed (take (suc c) m) ≡ listed (take c m) ++ listed (get_or m c 0 ∷ [])
listed_suc m c h = ap listed (take-suc m c 0 h) ∙ listed_append (take c m) (get_or m c 0 ∷ [])

pub listed_zero : (v : ℕ) (l : List ℕ) → v ≡ 0 → listed (v ∷ l) ≡ listed l
unfolding listed
listed_zero v l h = rw (eq-eqb v 0 h)

pub listed_one : (v : ℕ) (l : List ℕ) → (v ≡ 0 → ⊥) → listed (v ∷ l) ≡ bytes 4 v ++ listed l
unfolding listed
listed_one v l h = rw (ne_eqb v 0 h)

-- the numbers before cell c, its own, and the later ones
pub listed_split : (m : List ℕ) (c : ℕ) → c < length m → (get_or m c 0 ≡ 0 → ⊥) → listed m ≡ listed (take c m) ++ (bytes 4 (get_or m c 0) ++ listed (drop (suc c) m))
listed_split m c h z =
    ap listed (split_at m c 0 h) ∙ listed_append (take c m) (get_or m c 0 ∷ drop (suc c) m) ∙ ap (λ l. listed (take c m) ++ l) (listed_one (get_or m c 0) (drop (suc c) m) z)

pub below_listed : (m : List ℕ) → EntriesBelow 256 (listed m)
unfolding listed
below_listed [] = below_nil 256
below_listed (v ∷ m) = picked (EntriesBelow 256) (eqb v 0) (listed m) (bytes 4 v ++ listed m) (λ _. below_listed m) (λ _. below_append 256 (bytes 4 v) (listed m) (below_bytes 4 v) (below_listed m))

-- The number of cell d of a map is listed.
abbrev pub shown : List ℕ → ℕ → Bool
shown m d = eqb (bit (get_or m d 0)) 1

-- the place of a cell's number: four bytes for each number listed before
pub listed_place : (m : List ℕ) (c : ℕ) → c ≤ length m → length (listed (take c m)) ≡ 4 * count_below (shown m) c
unfolding listed count_below bit bytes
listed_place m zero h = refl
listed_place m (suc c) h =
    let ih : length (listed (take c m)) ≡ 4 * count_below (shown m) c = listed_place m c (omega arith) in
    rw (take-suc m c 0 (omega arith), listed_append, length-append, ih)
    (by_test (eqb (get_or m c 0) 0) (λ t. rw t (omega arith)) (λ t. rw t (omega arith)))
