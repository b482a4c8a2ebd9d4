-- Numbers as bytes and as bits, there and back.
-- Assumes nothing.
use mathlib.Core.Path.{◌≡◌, refl, ap}
use mathlib.Core.List.{List, [], ◌∷◌, ◌++◌}
use Prim.Native.Nat.{ℕ, zero, suc, ◌+◌, ◌*◌, ◌/◌, ◌%◌, ◌^◌, ◌≤◌, ◌<◌}
use native.Mathlib.Nat.{pow-succ', div-div-eq-div-mul, div-one, zero-div, pow-le-pow_right}
use native.Mathlib.Omega.{arith}
use lib.ListN.{length, get_or, take, drop, length-take, length-drop}
use lib.Seq.{get_or-take, get_or-drop}
use Rattle.records.specs.Fields.{bytes, value, field_at, packed}

-- ---- every entry below a bound

abbrev pub EntriesBelow : ℕ → List ℕ → Type 0
EntriesBelow b l = (k : ℕ) → k < length l → get_or l k 0 < b

pub below_nil : (b : ℕ) → EntriesBelow b []
below_nil b k h = absurd (omega arith)

below_cons : (b x : ℕ) (l : List ℕ) → x < b → EntriesBelow b l → EntriesBelow b (x ∷ l)
below_cons b x l h t zero k = h
below_cons b x l h t (suc j) k = t j (omega arith)

below_tail : (b x : ℕ) (l : List ℕ) → EntriesBelow b (x ∷ l) → EntriesBelow b l
below_tail b x l h k i = h (suc k) (omega arith)

pub below_append : (b : ℕ) (l k : List ℕ) → EntriesBelow b l → EntriesBelow b k → EntriesBelow b (l ++ k)
below_append b [] k h i = i
below_append b (x ∷ l) k h i = below_cons b x (l ++ k) (h 0 (omega arith)) (below_append b l k (below_tail b x l h) i)

pub below_drop : (b p : ℕ) (l : List ℕ) → EntriesBelow b l → EntriesBelow b (drop p l)
below_drop b p l h k i = rw get_or-drop (h (p + k) (omega (arith, length-drop p l)))

pub below_take : (b n : ℕ) (l : List ℕ) → EntriesBelow b l → EntriesBelow b (take n l)
below_take b n l h k i =
    let j : k < n = omega (arith, length-take n l) in
    rw get_or-take (h k (omega (arith, length-take n l)))

-- ---- bytes

pub length-bytes : (n x : ℕ) → length (bytes n x) ≡ n
unfolding bytes
length-bytes zero x = refl
length-bytes (suc n) x = ap suc (length-bytes n (x / 256))

pub below_bytes : (n x : ℕ) → EntriesBelow 256 (bytes n x)
unfolding bytes
below_bytes zero x = below_nil 256
below_bytes (suc n) x = below_cons 256 (x % 256) (bytes n (x / 256)) (omega arith) (below_bytes n (x / 256))

-- a field of two bytes, and one of four
pub value_two : (x : ℕ) → x < 65536 → value (bytes 2 x) ≡ x
unfolding value bytes
value_two x h = omega arith

pub value_four : (x : ℕ) → x < 4294967296 → value (bytes 4 x) ≡ x
unfolding value bytes
value_four x h = omega arith

pub bytes_value : (bs : List ℕ) → EntriesBelow 256 bs → bytes (length bs) (value bs) ≡ bs
unfolding value bytes
bytes_value [] h = refl
bytes_value (b ∷ bs) h =
    let i : b < 256 = h 0 (omega arith) in
    let m : (b + 256 * value bs) % 256 ≡ b = omega arith in
    let d : (b + 256 * value bs) / 256 ≡ value bs = omega arith in
    rw (m, d, bytes_value bs (below_tail 256 b bs h))

value_lt : (bs : List ℕ) → EntriesBelow 256 bs → value bs < 256 ^ length bs
unfolding value
value_lt [] h = omega arith
value_lt (b ∷ bs) h = rw pow-succ' (omega (arith, h 0 (omega arith), value_lt bs (below_tail 256 b bs h)))

-- the field of n bytes of a list of bytes, written again
pub bytes_field : (r : List ℕ) (p n : ℕ) → EntriesBelow 256 r → p + n ≤ length r → bytes n (field_at r p n) ≡ take n (drop p r)
unfolding field_at
bytes_field r p n h i =
    let e : length (take n (drop p r)) ≡ n = simp (length-take, length-drop) (omega arith) in
    rw e at (bytes_value (take n (drop p r)) (below_take 256 n (drop p r) (below_drop 256 p r h)))

pub field_four : (r : List ℕ) (p : ℕ) → EntriesBelow 256 r → field_at r p 4 < 4294967296
unfolding field_at
field_four r p h =
    let l : length (take 4 (drop p r)) ≤ 4 = omega (arith, length-take 4 (drop p r)) in
    omega (arith, value_lt (take 4 (drop p r)) (below_take 256 4 (drop p r) (below_drop 256 p r h)), pow-le-pow_right {n = 256} (omega arith) l)

-- ---- bits

pub packed_bit : (bs : List ℕ) → EntriesBelow 2 bs → (k : ℕ) → packed bs / 2 ^ k % 2 ≡ get_or bs k 0
unfolding packed
packed_bit [] h k = rw zero-div
packed_bit (b ∷ bs) h zero = let i : b < 2 = h 0 (omega arith) in rw div-one (omega arith)
packed_bit (b ∷ bs) h (suc k) =
    let i : b < 2 = h 0 (omega arith) in
    let d : (b + 2 * packed bs) / 2 ≡ packed bs = omega arith in
    rw (pow-succ', ← div-div-eq-div-mul (b + 2 * packed bs) 2 (2 ^ k), d) (packed_bit bs (below_tail 2 b bs h) k)

packed_lt : (bs : List ℕ) → EntriesBelow 2 bs → packed bs < 2 ^ length bs
unfolding packed
packed_lt [] h = omega arith
packed_lt (b ∷ bs) h = rw pow-succ' (omega (arith, h 0 (omega arith), packed_lt bs (below_tail 2 b bs h)))

pub packed_byte : (bs : List ℕ) → EntriesBelow 2 bs → length bs ≤ 8 → packed bs < 256
packed_byte bs h l = omega (arith, packed_lt bs h, pow-le-pow_right {n = 2} (omega arith) l)

-- a number is told by its bits
bits_same : (n x y : ℕ) → x < 2 ^ n → y < 2 ^ n → ((k : ℕ) → k < n → x / 2 ^ k % 2 ≡ y / 2 ^ k % 2) → x ≡ y
bits_same zero x y h i s = omega arith
bits_same (suc n) x y h i s =
    let p : 2 ^ suc n ≡ 2 * 2 ^ n = pow-succ' 2 n in
    let a : x / 1 % 2 ≡ y / 1 % 2 = s 0 (omega arith) in
    let b : x / 2 ≡ y / 2 = bits_same n (x / 2) (y / 2) (omega arith) (omega arith) (λ k l. rw (div-div-eq-div-mul x 2 (2 ^ k), div-div-eq-div-mul y 2 (2 ^ k), ← pow-succ' 2 k) (s (suc k) (omega arith))) in
    omega arith

pub byte_bits : (x y : ℕ) → x < 256 → y < 256 → ((k : ℕ) → k < 8 → x / 2 ^ k % 2 ≡ y / 2 ^ k % 2) → x ≡ y
byte_bits x y h i s = bits_same 8 x y h i s
