-- The block record, written and read back.
-- Assumes nothing.
use mathlib.Core.Path.{◌≡◌, refl, sym, ap, ◌∙◌}
use mathlib.Core.Bool.{false}
use mathlib.Core.List.{List, [], ◌∷◌, ◌++◌, append_assoc, append-nil}
use Prim.Native.Nat.{ℕ, zero, suc, ◌+◌, ◌*◌, ◌/◌, ◌%◌, ◌≤◌, ◌<◌}
use native.Mathlib.Omega.{arith}
use lib.Dec.{eqb, ltb}
use lib.ListN.{length, get_or, take, drop, length-append, length-take, length-drop, get_or-append, get_or-eq_default, take-append-drop}
use lib.Seq.{get_or-append-add, get_or-take, get_or-drop, take-length, take_all, take-add, drop-drop, drop_at, ext_get_or}
use borrow.Author.Tests.{eqb-true, ltb-true, ltb-false}
use Rattle.lists.proofs.Cases.{by_test}
use Rattle.closure.specs.Numbered.{count_below}
use Rattle.closure.proofs.Numbers.{count_same, Nth, nth_passes}
use Rattle.cells.specs.Box.{coord, triple}
use Rattle.cells.specs.declared.Axis.{Axis}
use Rattle.cells.specs.declared.Axis.TheVariants.{X, Y, Z}
use Rattle.cells.specs.declared.Triple.{Triple}
use Rattle.cells.specs.Grid.{cells}
use Rattle.records.specs.Fields.{bytes, field_at}
use Rattle.records.specs.Record.{head_bytes, bit, map_byte, bitmap_length, bitmap, listed, encode_record, extents_of, origin_of, bit_at, bits_before, number_of, decode_record, length_of, damaged}
use Rattle.records.proofs.FieldLaws.{EntriesBelow, below_nil, below_append, below_bytes, value_two, value_four, bytes_field, byte_bits}
use Rattle.records.proofs.ReadLaws.{by_bit, number_off, number_on, bits_off, bits_on, bits_mono, length-decode, decode_at, bit_at_byte}
use Rattle.records.proofs.DamageLaws.{Whole, whole_damaged, damaged_whole}
use Rattle.records.proofs.MapLaws.{by_zero, bit_zero, bit_one, map-byte_bit, map-byte_lt, length-bitmap, bitmap_at, below_bitmap, listed_suc, listed_zero, listed_one, below_listed, listed_split, shown, listed_place}
use Rattle.records.proofs.LaidLaws.{length-head, encode_length}

-- ---- what was written reads back

-- Numbers in two bytes each.
twos : List ℕ → List ℕ
twos [] = []
twos (x ∷ l) = bytes 2 x ++ twos l

below_twos : (l : List ℕ) → EntriesBelow 256 (twos l)
unfolding twos
below_twos [] = below_nil 256
below_twos (x ∷ l) = below_append 256 (bytes 2 x) (twos l) (below_bytes 2 x) (below_twos l)

below_head : (e o : Triple) → EntriesBelow 256 (head_bytes e o)
unfolding head_bytes bytes twos
below_head e o = below_twos (e.x ∷ e.y ∷ e.z ∷ o.x ∷ o.y ∷ o.z ∷ [])

module _ (e o : Triple) (m : List ℕ) where
  pub encode_bytes : EntriesBelow 256 (encode_record e o m)
  unfolding encode_record
  encode_bytes = below_append 256 (head_bytes e o ++ bitmap m) (listed m) (below_append 256 (head_bytes e o) (bitmap m) (below_head e o) (below_bitmap m)) (below_listed m)

  pub encode_extents : ((a : Axis) → coord e a < 65536) → extents_of (encode_record e o m) ≡ e
  unfolding encode_record head_bytes bytes extents_of field_at
  encode_extents h = λ i. triple (value_two e.x (h X) i) (value_two e.y (h Y) i) (value_two e.z (h Z) i)

  pub encode_origin : ((a : Axis) → coord o a < 65536) → origin_of (encode_record e o m) ≡ o
  unfolding encode_record head_bytes bytes origin_of field_at
  encode_origin h = λ i. triple (value_two o.x (h X) i) (value_two o.y (h Y) i) (value_two o.z (h Z) i)

  encode_bit : (c : ℕ) → c < 8 * bitmap_length (length m) → bit_at (encode_record e o m) c ≡ bit (get_or m c 0)
  unfolding bit_at encode_record
  encode_bit c h =
      let b : c / 8 < length (bitmap m) = omega (arith, length-bitmap m) in
      let s : 8 * (c / 8) + c % 8 ≡ c = omega arith in
      rw (append_assoc, ← length-head e o, get_or-append-add, get_or-append (bitmap m) (listed m) 0 (c / 8) b, bitmap_at m (c / 8) (omega (arith, length-bitmap m)), map-byte_bit m (c / 8) (c % 8) (omega arith), s)

  pub encode_bits : (c : ℕ) → c < length m → bit_at (encode_record e o m) c ≡ bit (get_or m c 0)
  unfolding bitmap_length
  encode_bits c h = encode_bit c (omega arith)

  pub encode_spare : (c : ℕ) → length m ≤ c → c < 8 * bitmap_length (length m) → bit_at (encode_record e o m) c ≡ 0
  encode_spare c h b = encode_bit c b ∙ bit_zero (get_or m c 0) (get_or-eq_default m 0 h)

  pub encode_bits_before : (c : ℕ) → c ≤ length m → bits_before (encode_record e o m) c ≡ count_below (shown m) c
  unfolding bits_before
  encode_bits_before c h = count_same (λ d. eqb (bit_at (encode_record e o m) d) 1) (shown m) c (λ d l. rw (encode_bits d (omega arith)))

  pub encode_length_of : length (encode_record e o m) ≡ length_of (length m) (encode_record e o m)
  unfolding length_of
  encode_length_of =
      let l : length (listed m) ≡ 4 * count_below (shown m) (length m) = rw (take-length m) at (listed_place m (length m) (omega arith)) in
      omega (arith, encode_length e o m, encode_bits_before (length m) (omega arith))

  -- the place of the number of cell c, where it is listed
  pub encode_place : (c : ℕ) → c < length m → (get_or m c 0 ≡ 0 → ⊥) → get_or m c 0 < 4294967296
      → field_at (encode_record e o m) (12 + bitmap_length (length m) + 4 * bits_before (encode_record e o m) c) 4 ≡ get_or m c 0
  unfolding field_at encode_record bytes
  encode_place c h z b =
      let p : ℕ = 12 + bitmap_length (length m) + 4 * count_below (shown m) c in
      let front : List ℕ = head_bytes e o ++ bitmap m ++ listed (take c m) in
      let back : List ℕ = bytes 4 (get_or m c 0) ++ listed (drop (suc c) m) in
      let r : head_bytes e o ++ bitmap m ++ listed m ≡ front ++ back = ap (λ l. head_bytes e o ++ bitmap m ++ l) (listed_split m c h z) ∙ sym (append_assoc (head_bytes e o ++ bitmap m) (listed (take c m)) back) in
      let l : length front ≡ p = rw (length-append, length-append, length-head, length-bitmap, listed_place m c (omega arith)) in
      rw (encode_bits_before c (omega arith), r, drop_at front back p l) (value_four (get_or m c 0) b)

  encode_number : (c : ℕ) → c < length m → get_or m c 0 < 4294967296 → number_of (length m) (encode_record e o m) c ≡ get_or m c 0
  unfolding number_of
  encode_number c h b =
      by_zero (get_or m c 0)
      (λ z. rw (encode_bits c h ∙ bit_zero (get_or m c 0) z) (sym z))
      (λ z. rw (encode_bits c h ∙ bit_one (get_or m c 0) z) (encode_place c h z b))

  pub decode_encoded : EntriesBelow 4294967296 m → decode_record (length m) (encode_record e o m) ≡ m
  decode_encoded b =
      let s : length (decode_record (length m) (encode_record e o m)) ≡ length m = length-decode (length m) (encode_record e o m) in
      ext_get_or 0 (decode_record (length m) (encode_record e o m)) m s
      (λ c l. decode_at (length m) (encode_record e o m) c (omega arith) ∙ encode_number c (omega arith) (b c (omega arith)))

  -- the k-th listed number is not 0
  encode_nonzero : EntriesBelow 4294967296 m → (k : ℕ) → k < bits_before (encode_record e o m) (length m) → field_at (encode_record e o m) (12 + bitmap_length (length m) + 4 * k) 4 ≡ 0 → ⊥
  unfolding bits_before
  encode_nonzero b k h z =
      let q : Nth (λ d. eqb (bit_at (encode_record e o m) d) 1) (length m) k = nth_passes (λ d. eqb (bit_at (encode_record e o m) d) 1) (length m) k h in
      let c : ℕ = q.at in
      let l : c < length m = q.less in
      let t : bit (get_or m c 0) ≡ 1 = sym (encode_bits c l) ∙ eqb-true (bit_at (encode_record e o m) c) 1 q.passes in
      let v : get_or m c 0 ≡ 0 → ⊥ = λ n. omega (arith, bit_zero (get_or m c 0) n) in
      v (sym (encode_place c l v (b c l)) ∙ rw q.before z)

  pub encode_whole : length m ≡ cells e → EntriesBelow 4294967296 m → damaged e (encode_record e o m) ≡ false
  encode_whole s b =
      whole_damaged e (encode_record e o m)
      record {
        sized = rw (← s) encode_length_of;
        spared = λ c h l. encode_spare c (omega arith) (rw s l);
        nonzero = rw (← s) (encode_nonzero b);
      }

-- ---- an accepted record is the one its map is written as

module _ (e : Triple) (r : List ℕ) (w : Whole e r) where
  number_listed : (c : ℕ) → c < cells e → bit_at r c ≡ 1 → number_of (cells e) r c ≡ 0 → ⊥
  number_listed c h t z = w.nonzero (bits_before r c) (omega (arith, bits_on r c t, bits_mono r (suc c) (cells e) h)) (sym (number_on (cells e) r c t) ∙ z)

  decode_bit : (c : ℕ) → c < 8 * bitmap_length (cells e) → bit (get_or (decode_record (cells e) r) c 0) ≡ bit_at r c
  decode_bit c h =
      by_test (ltb c (cells e))
      (λ t. let l : c < cells e = ltb-true c (cells e) t in
      rw (decode_at (cells e) r c l)
      (by_bit r c (λ z. bit_zero (number_of (cells e) r c) (number_off (cells e) r c z) ∙ sym z) (λ z. bit_one (number_of (cells e) r c) (number_listed c l z) ∙ sym z)))
      (λ t. let l : cells e ≤ c = ltb-false c (cells e) t in
      bit_zero (get_or (decode_record (cells e) r) c 0) (get_or-eq_default (decode_record (cells e) r) 0 (omega (arith, length-decode (cells e) r))) ∙ sym (w.spared c l h))

  decode_bitmap : EntriesBelow 256 r → bitmap (decode_record (cells e) r) ≡ take (bitmap_length (cells e)) (drop 12 r)
  unfolding length_of
  decode_bitmap b =
      let m : List ℕ = decode_record (cells e) r in
      let n : ℕ = bitmap_length (cells e) in
      let s : length (bitmap m) ≡ n = length-bitmap m ∙ ap bitmap_length (length-decode (cells e) r) in
      ext_get_or 0 (bitmap m) (take n (drop 12 r)) (s ∙ simp (length-take, length-drop) (omega (arith, w.sized)))
      (λ i h.
      let l : i < n = omega arith in
      rw (get_or-take n (drop 12 r) i 0 l, get_or-drop, bitmap_at m i (omega (arith, length-bitmap m)))
      (byte_bits (map_byte m i) (get_or r (12 + i) 0) (map-byte_lt m i) (b (12 + i) (omega (arith, w.sized)))
      (λ k j. map-byte_bit m i k j ∙ decode_bit (8 * i + k) (omega arith) ∙ bit_at_byte r i k j)))

  -- the bytes of one number
  listed_next : EntriesBelow 256 r → (c : ℕ) → c < cells e → bit_at r c ≡ 1 → listed (get_or (decode_record (cells e) r) c 0 ∷ []) ≡ take 4 (drop (4 * bits_before r c) (drop (12 + bitmap_length (cells e)) r))
  unfolding length_of listed
  listed_next b c h t =
      let p : ℕ = 12 + bitmap_length (cells e) + 4 * bits_before r c in
      let l : p + 4 ≤ length r = omega (arith, w.sized, bits_on r c t, bits_mono r (suc c) (cells e) h) in
      rw (decode_at (cells e) r c h, drop-drop)
      (listed_one (number_of (cells e) r c) [] (number_listed c h t) ∙ append-nil (bytes 4 (number_of (cells e) r c)) ∙ ap (bytes 4) (number_on (cells e) r c t) ∙ bytes_field r p 4 b l)

  -- the bytes of the first c numbers
  decode_listed : EntriesBelow 256 r → (c : ℕ) → c ≤ cells e → listed (take c (decode_record (cells e) r)) ≡ take (4 * bits_before r c) (drop (12 + bitmap_length (cells e)) r)
  unfolding listed bits_before count_below
  decode_listed b zero h = refl
  decode_listed b (suc c) h =
      let m : List ℕ = decode_record (cells e) r in
      let t : List ℕ = drop (12 + bitmap_length (cells e)) r in
      let ih : listed (take c m) ≡ take (4 * bits_before r c) t = decode_listed b c (omega arith) in
      listed_suc m c (omega (arith, length-decode (cells e) r)) ∙ ap (λ l. l ++ listed (get_or m c 0 ∷ [])) ih ∙
      by_bit r c
      (λ z. ap (λ l. take (4 * bits_before r c) t ++ l) (listed_zero (get_or m c 0) [] (decode_at (cells e) r c h ∙ number_off (cells e) r c z)) ∙ append-nil (take (4 * bits_before r c) t) ∙ ap (λ k. take (4 * k) t) (sym (bits_off r c z)))
      (λ z. ap (λ l. take (4 * bits_before r c) t ++ l) (listed_next b c h z) ∙ sym (take-add (4 * bits_before r c) 4 t) ∙ (let k : 4 * bits_before r c + 4 ≡ 4 * bits_before r (suc c) = omega (arith, bits_on r c z) in ap (λ j. take j t) k))

  decode_tail : EntriesBelow 256 r → listed (decode_record (cells e) r) ≡ drop (12 + bitmap_length (cells e)) r
  unfolding length_of
  decode_tail b =
      let m : List ℕ = decode_record (cells e) r in
      let t : List ℕ = drop (12 + bitmap_length (cells e)) r in
      ap listed (sym (take_all (cells e) m (omega (arith, length-decode (cells e) r)))) ∙ decode_listed b (cells e) (omega arith) ∙
      take_all (4 * bits_before r (cells e)) t (omega (arith, length-drop (12 + bitmap_length (cells e)) r, w.sized))

head_bytes_lem : (r : List ℕ) → EntriesBelow 256 r → 12 ≤ length r → head_bytes (extents_of r) (origin_of r) ≡ take 12 r
unfolding head_bytes extents_of origin_of
head_bytes_lem r b h =
    rw (
      bytes_field r 0 2 b (omega arith),
      bytes_field r 2 2 b (omega arith),
      bytes_field r 4 2 b (omega arith),
      bytes_field r 6 2 b (omega arith),
      bytes_field r 8 2 b (omega arith),
      bytes_field r 10 2 b (omega arith),
      ← take-add 2 2 r,
      ← take-add 4 2 r,
      ← take-add 6 2 r,
      ← take-add 8 2 r,
      ← take-add 10 2 r,
    )

pub encode_decode : (r : List ℕ) → EntriesBelow 256 r → damaged (extents_of r) r ≡ false → encode_record (extents_of r) (origin_of r) (decode_record (cells (extents_of r)) r) ≡ r
unfolding encode_record length_of
encode_decode r b d =
    let e : Triple = extents_of r in
    let w : Whole e r = damaged_whole e r d in
    let n : ℕ = bitmap_length (cells e) in
    rw (head_bytes_lem r b (omega (arith, w.sized)), decode_bitmap e r w b, decode_tail e r w b, ← drop-drop n 12 r, append_assoc, take-append-drop, take-append-drop)

-- ---- two accepted records are told apart by extents, origin and map

pub records_apart : (r s : List ℕ) → EntriesBelow 256 r → EntriesBelow 256 s → damaged (extents_of r) r ≡ false → damaged (extents_of s) s ≡ false
    → extents_of r ≡ extents_of s → origin_of r ≡ origin_of s → decode_record (cells (extents_of r)) r ≡ decode_record (cells (extents_of s)) s → r ≡ s
records_apart r s b b' d d' e o m = sym (encode_decode r b d) ∙ rw (m, e, o) (encode_decode s b' d')

-- two maps of one size that are written as one record are equal
pub maps_apart : (e f o q : Triple) (m k : List ℕ) → EntriesBelow 4294967296 m → EntriesBelow 4294967296 k → length m ≡ length k → encode_record e o m ≡ encode_record f q k → m ≡ k
maps_apart e f o q m k b b' l r = sym (decode_encoded e o m b) ∙ rw (l, r) (decode_encoded f q k b')
