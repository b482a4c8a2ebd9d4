-- The ways of the reader's functions, over plain lists and numbers.
-- Assumes nothing.
use Prim.Native.Nat.{ℕ, zero, suc, ◌+◌, ◌-◌, ◌*◌, ◌/◌, ◌%◌, ◌^◌, ◌≤◌, ◌<◌}
use mathlib.Core.Path.{◌≡◌, refl, sym, ap, ◌∙◌}
use mathlib.Core.Logic.{◌≢◌}
use mathlib.Core.Bool.{Bool, true, false, cond, not, ◌||◌}
use mathlib.Core.List.{List, [], ◌∷◌}
use native.Mathlib.Numerals.{add-one}
use native.Mathlib.Nat.{mul-one, two-pow-succ}
use native.Mathlib.Omega.{arith}
use lib.Dec.{eqb, leb}
use lib.ListN.{length, get_or, take, drop, set, length-drop}
use lib.Seq.{get_or-drop, take_all, take-suc-set}
use borrow.Author.Tests.{eqb-true, eq-eqb, ne_eqb, le-leb, lt-leb, not-false}
use Rattle.std.proofs.Common.{Ok, Err}
use Rattle.std.specs.Int.{w16, w32, from_le_bytes}
use lib.Count.{ones, ones_in}
use Rattle.std.specs.List.{list_any, range_with_len, sum_by}
use Rattle.std.proofs.lemmas.List.Sums.{sum_by_more}
use Rattle.lists.proofs.Cases.{neither}
use Rattle.lists.specs.Lists.{consecutive, tabulate, some_of}
use Rattle.lists.proofs.Lists.{tabulate_snoc}
use Rattle.closure.specs.Numbered.{count_below}
use Rattle.refusals.specs.declared.Refusal.{Refusal}
use Rattle.refusals.specs.Refusals.{number, table, first, given_by, listed_numbers, stands_in}
use Rattle.refusals.proofs.RefusalLaws.{given_none, number_nonzero}
use Rattle.cells.specs.declared.Triple.{Triple}
use Rattle.cells.specs.Extents.{off_place}
use Rattle.cells.specs.Grid.{cells}
use Rattle.cells.proofs.ExtentLaws.{cells_high}
use Rattle.extents.proofs.SizeLaws.{sized_at}
use Rattle.records.specs.Fields.{field_at}
use Rattle.records.specs.Record.{extents_of, origin_of, bit_at, bits_before, bitmap_length, number_of, decode_record, length_of, damaged}
use Rattle.records.proofs.BitLaws.{field_two, field_four, bits_more, bits_byte}
use Rattle.records.proofs.ReadLaws.{bits_mono}
use Rattle.reader.specs.declared.Head.{Head}
use Rattle.reader.specs.Parts.{Mapped, ReadTo, bit_count, number_at}
use Rattle.reader.specs.Loaded.{headed, declines, refusal_of, told, outcome, HeadOf, accepted, refused, reading}

-- ---- tests

-- The sides of an alternative: t is the value of the code's test, b the test of the definition.
pub or_here : (t b d : Bool) → t ≡ b → t ≡ true → true ≡ (b || d)
or_here t b d e h = rw (sym e ∙ h)

pub or_next : (t b d : Bool) {r : Bool} → t ≡ b → t ≡ false → r ≡ d → r ≡ (b || d)
or_next t b d e h q = rw (sym e ∙ h) q

-- ---- a search for a place that passes

range_is : (i n : ℕ) → range_with_len i n ≡ consecutive i n
unfolding consecutive
range_is i zero = refl
range_is i (suc n) = rw (range_is (i + 1) n, add-one i)

any_is : (f : ℕ → Bool) (l : List ℕ) → list_any f l ≡ some_of f l
any_is f [] = refl
any_is f (x ∷ xs) = rw (any_is f xs)

pub any_range : (f : ℕ → Bool) (i n : ℕ) → list_any f (range_with_len i n) ≡ some_of f (consecutive i n)
any_range f i n = rw (range_is i n, any_is f)

-- ---- fields and bits of a byte

pub from_two : (r : List ℕ) (p : ℕ) → p + 2 ≤ length r → from_le_bytes w16 (get_or r p 0 ∷ get_or r (p + 1) 0 ∷ []) ≡ field_at r p 2
from_two r p h = omega (arith, field_two r p h)

pub from_four : (r : List ℕ) (p : ℕ) → p + 4 ≤ length r → from_le_bytes w32 (get_or r p 0 ∷ get_or r (p + 1) 0 ∷ get_or r (p + 2) 0 ∷ get_or r (p + 3) 0 ∷ []) ≡ field_at r p 4
from_four r p h = omega (arith, field_four r p h)

ones_none : (d : ℕ) → ones_in d 0 ≡ 0
unfolding ones_in
ones_none zero = refl
ones_none (suc d) = omega (arith, ones_none d)

ones_first : (k d n : ℕ) → n < 2 ^ k → n ≤ d → ones_in d n ≡ ones_in k n
unfolding ones_in
ones_first zero d n h i = let z : n ≡ 0 = omega arith in rw z (ones_none d)
ones_first (suc k) zero n h i = let z : n ≡ 0 = omega arith in rw z (sym (ones_none (suc k)))
ones_first (suc k) (suc d) n h i = ap (λ m. n % 2 + m) (ones_first k d (n / 2) (omega (arith, h, two-pow-succ k)) (omega arith))

pub ones_byte : (b : ℕ) → b < 256 → ones b ≡ bit_count b
unfolding bit_count ones ones_in
ones_byte b h = ones_first 8 b b h (omega arith) ∙ omega arith

pub bits_sum : (r : List ℕ) (n : ℕ) → 12 + n ≤ length r → sum_by bit_count (take n (drop 12 r)) ≡ bits_before r (8 * n)
unfolding bits_before count_below bit_count
bits_sum r zero h = refl
bits_sum r (suc n) h =
    let room : n < length (drop 12 r) = rw length-drop (omega arith) in
    let more = sum_by_more bit_count (drop 12 r) n 0 room in
    let here : get_or (drop 12 r) n 0 ≡ get_or r (12 + n) 0 = get_or-drop 12 r n 0 in
    let byte = bits_byte r n (get_or r (12 + n) 0) refl in
    rw (← add-one n) (more ∙ rw (here, bits_sum r n (omega arith)) (sym byte))

-- ---- one cell

-- A place or a number, times a bit.
pub times_low : (x b : ℕ) → b < 2 → x * b ≤ x
times_low x zero h = omega arith
times_low x (suc zero) h = omega arith
times_low x (suc (suc b)) h = absurd (omega arith)

pub times_room : (p b n : ℕ) → b < 2 → 4 ≤ n → (b ≡ 1 → p + 4 ≤ n) → p * b + 4 ≤ n
times_room p zero n h k r = omega arith
times_room p (suc zero) n h k r = let s : p + 4 ≤ n = r refl in omega arith
times_room p (suc (suc b)) n h k r = absurd (omega arith)

pub number_times : (r : List ℕ) (p b x : ℕ) → b < 2 → x ≡ field_at r (p * b) 4 → x * b ≡ number_at r b p
unfolding number_at
number_times r p zero x h e = omega arith
number_times r p (suc zero) x h e = mul-one x ∙ e ∙ rw (mul-one p)
number_times r p (suc (suc b)) x h e = absurd (omega arith)

-- The number of a cell, by its bit and the place of the next listed number.
pub number_is : (n : ℕ) (r : List ℕ) (c b p : ℕ) → b ≡ bit_at r c → p ≡ 12 + bitmap_length n + 4 * bits_before r c → number_at r b p ≡ number_of n r c
unfolding number_at number_of
number_is n r c b p e f = rw (e, f)

-- The number of a cell whose bit stands is there.
pub listed_room : (n : ℕ) (r : List ℕ) (c : ℕ) → length r ≡ length_of n r → c < n → bit_at r c ≡ 1 → 12 + bitmap_length n + 4 * bits_before r c + 4 ≤ length r
unfolding length_of
listed_room n r c e h b = omega (arith, bits_more r c, bits_mono r (c + 1) n (omega arith))

-- ---- the cells read so far: none, one more, all

module _ (n : ℕ) (r m : List ℕ) where
  pub read_none : ReadTo r n 0 (12 + bitmap_length n) m
  unfolding bits_before count_below tabulate consecutive
  read_none = record { place = omega arith; front = refl }

  pub read_more : {c p b v : ℕ} → ReadTo r n c p m → c < length m → b ≡ bit_at r c → v ≡ number_at r b p → ReadTo r n (c + 1) (p + 4 * b) (set m c v)
  read_more {c} {p} {b} {v} R h e q = record {
    place = omega (arith, R.place, e, bits_more r c);
    front = rw (add-one c, tabulate_snoc c (number_of n r), ← R.front, ← number_is n r c b p e R.place, ← q) (take-suc-set m c v h);
  }

  pub read_all : {c p : ℕ} → ReadTo r n c p m → c ≡ n → length m ≡ n → m ≡ decode_record n r
  unfolding decode_record
  read_all R e h = sym (take_all n m (omega arith)) ∙ rw e at R.front

-- ---- damage

module _ (e : Triple) (r : List ℕ) where
  -- Where n cells have k standing bits, in b bytes.
  module _ {n k b : ℕ} (i : n ≡ cells e) (j : k ≡ bits_before r n) (l : b ≡ bitmap_length n) where
    pub damaged_length : length r ≢ 12 + b + 4 * k → true ≡ damaged e r
    unfolding damaged length_of
    damaged_length d = rw (ne_eqb _ _ (rw (j, l, i) at d))

    pub damaged_rest : length r ≡ 12 + b + 4 * k → damaged e r
        ≡ (some_of (λ c. eqb (bit_at r c) 1) (consecutive n (8 * bitmap_length n - n)) || some_of (λ c. eqb (field_at r (12 + b + 4 * c) 4) 0) (consecutive 0 k))
    unfolding damaged length_of
    damaged_rest d = rw (j, l, i, eq-eqb _ _ (rw (j, l, i) at d))

  whole_of : damaged e r ≡ false → length r ≡ length_of (cells e) r
  unfolding damaged
  whole_of d = eqb-true _ _ (not-false _ (neither _ _ d).0)

-- ---- refusals

-- A block that has its place has its size.
module _ (r : List ℕ) (tray : ℕ) where
  pub refusal_short : length r < 12 → refusal_of r tray ≡ 11
  unfolding refusal_of given_by first table number stands_in declines headed
  refusal_short h = rw (lt-leb _ _ h)

  -- The tests of a whole head, in the order of the code.
  module _ (w : 12 ≤ length r) {e o : Triple} (i : e ≡ extents_of r) (j : o ≡ origin_of r) where
    ladder : refusal_of r tray ≡ cond (off_place e o) 1 (cond (not (eqb tray (cells e))) 6 (cond (damaged e r) 11 0))
    unfolding refusal_of given_by first table number stands_in declines headed
    ladder = rw (i, j, le-leb _ _ w)

    pub refusal_size : off_place e o ≡ true → refusal_of r tray ≡ 1
    refusal_size t = ladder ∙ rw t

    pub refusal_tray : off_place e o ≡ false → tray ≢ cells e → refusal_of r tray ≡ 6
    refusal_tray t d = ladder ∙ rw (t, ne_eqb _ _ d)

    pub refusal_last : off_place e o ≡ false → tray ≡ cells e → refusal_of r tray ≡ cond (damaged e r) 11 0
    refusal_last t d = ladder ∙ rw (t, eq-eqb _ _ d)

-- What holds of a record that is not refused.
pub record Readable (r : List ℕ) (tray : ℕ) : Type 0 where
  pub is : tray ≡ cells (extents_of r)
  pub few : tray ≤ 2048383
  pub whole : length r ≡ length_of tray r

pub readable : (r : List ℕ) (tray : ℕ) → refusal_of r tray ≡ 0 → Readable r tray
unfolding refusal_of declines stands_in number headed
readable r tray z =
    let e = extents_of r in
    let no = (given_none (stands_in (declines r tray))).0 z in
    let bad = neither _ _ (no Refusal.BadRecord) in
    let t : leb 12 (length r) ≡ true = not-false _ bad.0 in
    let on-place : off_place e (origin_of r) ≡ false = rw t at (no Refusal.OffSize) in
    let n : tray ≡ cells e = eqb-true _ _ (not-false _ (rw t at (no Refusal.WrongTray))) in
    record {
      is = n;
      few = omega (arith, cells_high (sized_at e (origin_of r) on-place));
      whole = rw n (whole_of e r bad.1);
    }

pub mapped_of : {r : List ℕ} {tray : ℕ} → Readable r tray → Mapped r tray
unfolding length_of
mapped_of R = record { few = R.few; bits = omega (arith, R.whole) }

-- ---- the ways of `read_record`

module _ (r t : List ℕ) where
  pub read_refused : (q : Refusal) → number q ≡ refusal_of r (length t) → reading r t ≡ outcome (told (Err q)) t
  unfolding reading refused
  read_refused q h = rw (← h, number_nonzero q)

  pub read_accepted : 0 ≡ refusal_of r (length t) → (h : Head) (m : List ℕ) → HeadOf r h → m ≡ decode_record (length t) r → outcome (told (Ok h)) m ≡ reading r t
  unfolding reading accepted
  read_accepted z h m i j = rw (← z, i.size, i.origin, j, ← (readable r (length t) (sym z)).is)

-- The numbers that `read_record` lists, in the order of the table.
pub read_listed : (r : List ℕ) (tray : ℕ) → listed_numbers (declines r tray) ≡ 1 ∷ 6 ∷ 11 ∷ []
unfolding listed_numbers declines number
read_listed r tray = refl
