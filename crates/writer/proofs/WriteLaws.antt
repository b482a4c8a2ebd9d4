-- The ways of the writer's functions, over plain lists and numbers.
-- Assumes nothing.
use mathlib.Core.Path.{◌≡◌, refl, sym, ap, ◌∙◌}
use mathlib.Core.Logic.{◌≢◌}
use mathlib.Core.Bool.{true, false, cond, not, ◌||◌}
use mathlib.Core.List.{List, [], ◌∷◌, ◌++◌, append-nil}
use Prim.Native.Nat.{ℕ, zero, suc, ◌+◌, ◌-◌, ◌*◌, ◌/◌, ◌^◌, ◌≤◌, ◌<◌}
use native.Mathlib.Nat.{two-pow-succ}
use native.Mathlib.Numerals.{add-one}
use native.Mathlib.Omega.{arith}
use lib.Dec.{eqb, ltb}
use lib.ListN.{length, get_or, take, drop, set, length-append, length-drop, take-append-drop}
use lib.Seq.{drop-cons, take_all, take-length}
use borrow.Author.Tests.{eqb-true, eq-eqb, ne_eqb, ltb-false, lt-ltb, le-ltb, not-false}
use Rattle.std.proofs.Common.{Ok, Err}
use Rattle.std.specs.List.{sum_by}
use Rattle.std.specs.Int.{w16, w32, to_le_bytes}
use Rattle.std.proofs.lemmas.List.Sums.{sum_by-cons}
use Rattle.lists.specs.Lists.{consecutive, tabulate, laid}
use Rattle.lists.proofs.Cases.{by_test, neither}
use Rattle.lists.proofs.Lists.{length-tabulate, tabulate_snoc, drop-down}
use Rattle.lists.proofs.Laid.{length-laid, laid_next, laid_none, laid_more, laid_front}
use Rattle.cells.specs.declared.Triple.{Triple}
use Rattle.cells.specs.Extents.{Sized, off_size, off_place}
use Rattle.cells.specs.Grid.{cells}
use Rattle.cells.proofs.ExtentLaws.{cells_high}
use Rattle.extents.proofs.SizeLaws.{sized_at}
use Rattle.refusals.specs.declared.Refusal.{Refusal}
use Rattle.refusals.specs.Refusals.{number, table, first, given_by, listed_numbers, stands_in}
use Rattle.refusals.proofs.RefusalLaws.{given_none, number_nonzero}
use Rattle.records.specs.Fields.{bytes, packed}
use Rattle.records.proofs.FieldLaws.{length-bytes}
use Rattle.records.specs.Record.{head_bytes, bit, map_byte, bitmap_length, bitmap, listed, encode_record}
use Rattle.records.proofs.LaidLaws.{laid_encode, listed_zero, listed_one, listed_next, length-next, encode_length}
use Rattle.records.proofs.MapLaws.{listed_append, listed_suc}
use Rattle.writer.specs.Inner.{byte_of, Short, Ready}
use Rattle.writer.specs.Writing.{declines, refusal_of, told, outcome, accepted, refused, writing}

-- ---- the length of a record

bit_low : (v : ℕ) → bit v ≤ 1
unfolding bit
bit_low v = by_test (eqb v 0) (λ t. rw t (omega arith)) (λ t. rw t (omega arith))

-- Four bytes for each number that is not 0.
pub listed_length : (m : List ℕ) → length (listed m) ≡ 4 * sum_by bit m
unfolding listed
listed_length [] = refl
listed_length (v ∷ vs) = length-next v vs ∙ omega (arith, listed_length vs, sum_by-cons bit v vs)

-- What is added for each number is 0 or 1.
pub bits_few : (m : List ℕ) → sum_by bit m ≤ length m
bits_few [] = omega arith
bits_few (v ∷ vs) = omega (arith, bits_few vs, bit_low v, sum_by-cons bit v vs)

-- ---- fields

pub le_two : (x : ℕ) → to_le_bytes w16 x ≡ bytes 2 x
unfolding bytes
le_two x = refl

pub le_four : (x : ℕ) → to_le_bytes w32 x ≡ bytes 4 x
unfolding bytes
le_four x =
    let a : x / 65536 ≡ x / 256 / 256 = omega arith in
    let b : x / 16777216 ≡ x / 256 / 256 / 256 = omega arith in
    rw (a, b)

-- ---- the bit map

bits_next : (v : ℕ) (vs : List ℕ) → byte_of (v ∷ vs) ≡ bit v + 2 * byte_of vs
unfolding byte_of packed
bits_next v vs = refl

pub bits_low : (n : ℕ) (vs : List ℕ) → length vs ≤ n → byte_of vs < 2 ^ n
unfolding byte_of packed
bits_low zero [] h = omega arith
bits_low (suc n) [] h = let i = bits_low n [] (omega arith) in omega (arith, i, two-pow-succ n)
bits_low zero (v ∷ vs) h = absurd (omega arith)
bits_low (suc n) (v ∷ vs) h = let i = bits_low n vs (omega arith) in omega (arith, i, bit_low v, two-pow-succ n)

pub bits_down : (m : List ℕ) (k b r : ℕ) → 0 < k → k ≤ length m → b ≡ byte_of (drop k m) → r ≡ bit (get_or m (k - 1) 0) + 2 * b → r ≡ byte_of (drop (k - 1) m)
bits_down m k b r h i e q = rw (drop-down m k h i, bits_next, ← e) q

-- a byte of the map from all eight numbers, or from the last ones
pub byte_whole : (m : List ℕ) (i : ℕ) → byte_of (take 8 (drop (8 * i) m)) ≡ map_byte m i
unfolding byte_of map_byte
byte_whole m i = refl

pub byte_last : (m : List ℕ) (i : ℕ) → length m - 8 * i < 8 → byte_of (drop (8 * i) m) ≡ map_byte m i
byte_last m i h = let k : length (drop (8 * i) m) ≤ 8 = rw (length-drop (8 * i) m) (omega arith) in ap byte_of (sym (take_all 8 (drop (8 * i) m) k)) ∙ byte_whole m i

-- the bytes of the map, laid one by one
pub bits_start : (m t : List ℕ) → 12 ≤ length t → t ≡ laid 12 (tabulate 0 (map_byte m)) t
unfolding tabulate consecutive
bits_start m t h = laid_none 12 t h

pub bits_more : (m t : List ℕ) (i v : ℕ) → 12 + i < length t → v ≡ map_byte m i → set (laid 12 (tabulate i (map_byte m)) t) (12 + i) v ≡ laid 12 (tabulate (i + 1) (map_byte m)) t
bits_more m t i v h e = rw (add-one i, tabulate_snoc, e) (laid_more 12 i (map_byte m i) (tabulate i (map_byte m)) t (length-tabulate i (map_byte m)) h)

pub bits_all : (m t : List ℕ) (i : ℕ) → i ≡ bitmap_length (length m) → laid 12 (tabulate i (map_byte m)) t ≡ laid 12 (bitmap m) t
unfolding bitmap
bits_all m t i e = rw e

-- ---- the numbers listed

-- The first i numbers are listed from place at of tray t on, which is then tray u, up to place p.
pub record Listed (m : List ℕ) (at : ℕ) (t : List ℕ) (i p : ℕ) (u : List ℕ) : Type 0 where
  pub ends : p ≡ at + length (listed (take i m))
  pub laid_there : u ≡ laid at (listed (take i m)) t

module _ (m : List ℕ) (at : ℕ) (t : List ℕ) (fits : at + length (listed m) ≤ length t) where
  pub listed_none : Listed m at t 0 at t
  unfolding listed
  listed_none = record { ends = omega arith; laid_there = laid_none at t (omega arith) }

  module _ {i p : ℕ} {u : List ℕ} (a : Listed m at t i p u) (h : i < length m) (v : ℕ) (is : v ≡ get_or m i 0) where
    more : listed (take (i + 1) m) ≡ listed (take i m) ++ listed (v ∷ [])
    more = rw (add-one i, is) (listed_suc m i h)

    up_to : length (listed (take i m)) + length (listed (v ∷ [])) ≤ length (listed m)
    up_to =
        let e : listed m ≡ listed (take i m) ++ listed (drop i m) = ap listed (sym (take-append-drop i m)) ∙ listed_append (take i m) (drop i m) in
        let d : listed (drop i m) ≡ listed (v ∷ []) ++ listed (drop (suc i) m) = rw (drop-cons m i 0 h, ← is) (listed_next v (drop (suc i) m)) in
        rw (e, d) (simp length-append (omega arith))

    pub listed_zero_next : v ≡ 0 → Listed m at t (i + 1) p u
    listed_zero_next z =
        let e : listed (take (i + 1) m) ≡ listed (take i m) = more ∙ rw (listed_zero v z) (append-nil _) in
        record { ends = rw e a.ends; laid_there = rw e a.laid_there }

    pub listed_room : v ≢ 0 → p + 4 ≤ length u
    listed_room d =
        let k : length (listed (v ∷ [])) ≡ 4 = ap length (listed_one v d) ∙ length-bytes 4 v in
        let l : length u ≡ length t = ap length a.laid_there ∙ length-laid at (listed (take i m)) t (omega (arith, up_to)) in
        omega (arith, a.ends, up_to)

    pub listed_one_next : v ≢ 0 → (w : List ℕ) → w ≡ laid p (bytes 4 v) u → Listed m at t (i + 1) (p + 4) w
    listed_one_next d w e =
        let k : length (listed (v ∷ [])) ≡ 4 = ap length (listed_one v d) ∙ length-bytes 4 v in
        let q : listed (take (i + 1) m) ≡ listed (take i m) ++ bytes 4 v = more ∙ ap (λ (l : List ℕ). listed (take i m) ++ l) (listed_one v d) in
        record {
          ends = rw q (simp length-append (omega (arith, a.ends, length-bytes 4 v)));
          laid_there = rw (q, e, a.laid_there) (laid_next at p (listed (take i m)) (bytes 4 v) t a.ends (omega (arith, a.ends, up_to, length-bytes 4 v)));
        }

  pub listed_all : {p : ℕ} {u : List ℕ} → Listed m at t (length m) p u → (p ≡ at + length (listed m)) × (u ≡ laid at (listed m) t)
  listed_all a = (rw take-length at a.ends, rw take-length at a.laid_there)

-- ---- the pieces of a record

pub pieces : (e o : Triple) (m t t₁ t₂ t₃ : List ℕ) (at r : ℕ) → Ready e o m (length t) → t₁ ≡ laid 0 (head_bytes e o) t → t₂ ≡ laid 12 (bitmap m) t₁ → at ≡ 12 + bitmap_length (length m)
    → (r ≡ at + length (listed m)) × (t₃ ≡ laid at (listed m) t₂) → (r ≡ length (encode_record e o m)) × (t₃ ≡ laid 0 (encode_record e o m) t)
pieces e o m t t₁ t₂ t₃ at r g a b c d = (
  d.0 ∙ ap (λ (n : ℕ). n + length (listed m)) c ∙ sym (encode_length e o m),
  d.1 ∙ rw (c, b, a) (laid_encode e o m t g.fits),
)

-- ---- the refusals

-- A block in its place has extents and an origin that fit in their bytes.
short_extents : {e : Triple} → Sized 64 e → Short e
short_extents s = record { x_fits = omega (arith, s.x_high); y_fits = omega (arith, s.y_high); z_fits = omega (arith, s.z_high) }

short_origin : (e o : Triple) → off_place e o ≡ false → Short o
unfolding off_place
short_origin e o t =
    let a = (neither (off_size 64 e) _ t).1 in
    let x = neither (ltb 1024 (o.x + e.x)) _ a in
    let y = neither (ltb 1024 (o.y + e.y)) _ x.1 in
    record {
      x_fits = omega (arith, ltb-false 1024 (o.x + e.x) x.0);
      y_fits = omega (arith, ltb-false 1024 (o.y + e.y) y.0);
      z_fits = omega (arith, ltb-false 1024 (o.z + e.z) y.1);
    }

module _ (e o : Triple) (m : List ℕ) (tray : ℕ) where
  -- the tests in the order of the code
  ladder : refusal_of e o m tray ≡ cond (off_place e o) 1 (cond (not (eqb (length m) (cells e)) || ltb tray (length (encode_record e o m))) 6 0)
  unfolding refusal_of given_by first table number stands_in declines
  ladder = refl

  pub off_size_given : off_place e o ≡ true → 1 ≡ refusal_of e o m tray
  off_size_given p = rw (ladder, p)

  pub wrong_map_given : off_place e o ≡ false → (length m ≡ cells e → ⊥) → 6 ≡ refusal_of e o m tray
  wrong_map_given p d = rw (ladder, p, ne_eqb _ _ d)

  module _ (p : off_place e o ≡ false) (k : length m ≡ cells e) (r : ℕ) (q : r ≡ 12 + bitmap_length (length m) + length (listed m)) where
    pub wrong_tray_given : tray < r → 6 ≡ refusal_of e o m tray
    wrong_tray_given h = rw (ladder, p, eq-eqb _ _ k, encode_length e o m, ← q, lt-ltb tray r h)

    pub none_given : r ≤ tray → 0 ≡ refusal_of e o m tray
    none_given h = rw (ladder, p, eq-eqb _ _ k, encode_length e o m, ← q, le-ltb tray r h)

  -- What holds where nothing is refused.
  pub ready_of : 0 ≡ refusal_of e o m tray → Ready e o m tray
  unfolding refusal_of declines stands_in number
  ready_of z =
      let n = (given_none (stands_in (declines e o m tray))).0 (sym z) in
      let s = sized_at e o (n Refusal.OffSize) in
      let w = n Refusal.WrongTray in
      let a = not (eqb (length m) (cells e)) in
      let b = ltb tray (length (encode_record e o m)) in
      let k : length m ≡ cells e = eqb-true _ _ (not-false _ (neither a b w).0) in
      let f = ltb-false tray (length (encode_record e o m)) (neither a b w).1 in
      record { extents = short_extents s; origin = short_origin e o (n Refusal.OffSize); few = omega (arith, cells_high s); fits = rw (encode_length e o m) at f }

-- ---- the ways of `write_record`

pub write_refused : (e o : Triple) (m t : List ℕ) (r : Refusal) → number r ≡ refusal_of e o m (length t) → writing e o m t ≡ outcome (told (Err r)) t
unfolding writing refused
write_refused e o m t r h = rw (← h, number_nonzero r)

pub write_accepted : (e o : Triple) (m t u : List ℕ) (n : ℕ) → 0 ≡ refusal_of e o m (length t) → (n ≡ length (encode_record e o m)) × (u ≡ laid 0 (encode_record e o m) t)
    → writing e o m t ≡ outcome (told (Ok n)) u
unfolding writing accepted
write_accepted e o m t u n h d = rw (← h, d.0, d.1, laid_front)

-- The numbers that `write_record` lists, in the order of the table.
pub write_listed : (e o : Triple) (m : List ℕ) (tray : ℕ) → listed_numbers (declines e o m tray) ≡ 1 ∷ 6 ∷ []
unfolding listed_numbers declines number
write_listed e o m tray = refl
