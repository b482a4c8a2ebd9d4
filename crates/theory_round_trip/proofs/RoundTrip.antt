-- Statement 2, second half. The premises are the promises of `write_record` and `read_record` themselves.
-- Assumes nothing.
use mathlib.Core.Path.{◌≡◌, refl, sym, ap, ◌∙◌}
use mathlib.Core.Bool.{false, not}
use mathlib.Core.List.{List, ◌++◌}
use Prim.Native.Nat.{ℕ, ◌≤◌, ◌<◌}
use native.Mathlib.Omega.{arith}
use lib.Dec.{eqb, leb, ltb}
use lib.ListN.{length, take, drop}
use lib.Seq.{take_at}
use borrow.Author.Tests.{eqb-true, eq-eqb, le-leb, le-ltb, leb-true, ltb-false, not-false}
use Rattle.lists.proofs.Cases.{neither}
use Rattle.refusals.specs.declared.Refusal.{Refusal}
use Rattle.refusals.specs.Refusals.{number, table, first, given_by, stands_in}
use Rattle.refusals.proofs.RefusalLaws.{outcome_refusal, given_none}
use Rattle.cells.specs.Box.{coord}
use Rattle.cells.specs.declared.Axis.{Axis}
use Rattle.cells.specs.declared.Triple.{Triple}
use Rattle.cells.specs.Extents.{off_place}
use Rattle.cells.specs.Grid.{cells}
use Rattle.records.specs.Record.{encode_record, extents_of, origin_of, decode_record, damaged}
use Rattle.records.proofs.FieldLaws.{EntriesBelow}
use Rattle.records.proofs.ReadLaws.{length-decode}
use Rattle.records.proofs.RoundTrip.{encode_extents, encode_origin, decode_encoded, encode_whole, encode_decode}
use Rattle.records.proofs.LaidLaws.{encode_length}
use Rattle.writer.specs.Writing.{Written}
use Rattle.writer.specs.Writing as w
use Rattle.reader.specs.Loaded.{Told}
use Rattle.reader.specs.Loaded as r

-- ---- the writer

-- The case of each refusal where none is given, and the other way.
record Writable (e o : Triple) (m : List ℕ) (tray : ℕ) : Type 0 where
  placed : off_place e o ≡ false
  whole : length m ≡ cells e
  room : length (encode_record e o m) ≤ tray

module _ (e o : Triple) (m : List ℕ) (tray : ℕ) where
  writable : w.refusal_of e o m tray ≡ 0 → Writable e o m tray
  unfolding w.refusal_of w.declines stands_in number
  writable z =
      let n = (given_none (stands_in (w.declines e o m tray))).0 z in
      let t = neither (not (eqb (length m) (cells e))) (ltb tray (length (encode_record e o m))) (n Refusal.WrongTray) in
      record {
        placed = n Refusal.OffSize;
        whole = eqb-true (length m) (cells e) (not-false _ t.0);
        room = ltb-false tray (length (encode_record e o m)) t.1;
      }

  unrefused : Writable e o m tray → w.refusal_of e o m tray ≡ 0
  unfolding w.refusal_of w.declines given_by first table number stands_in
  unrefused k = rw (k.placed, eq-eqb (length m) (cells e) k.whole, le-ltb tray (length (encode_record e o m)) k.room)

module _ (e o : Triple) (m t : List ℕ) where
  accepted_writing : w.refusal_of e o m (length t) ≡ 0 → w.writing e o m t ≡ w.accepted e o m t
  unfolding w.writing
  accepted_writing z = rw (eq-eqb (w.refusal_of e o m (length t)) 0 z)

  -- A promise with refusal 0 is that of an accepted call.
  no_refusal : (a : Written) (t' : List ℕ) → w.outcome a t' ≡ w.writing e o m t → a.refusal ≡ 0 → w.refusal_of e o m (length t) ≡ 0
  unfolding w.writing w.accepted w.refused
  no_refusal a t' promise fine = sym (outcome_refusal (λ (x : w.Outcome). x.answer.refusal) (w.refusal_of e o m (length t)) refl refl promise) ∙ fine

-- ---- the reader

record Readable (r : List ℕ) (tray : ℕ) : Type 0 where
  headed : 12 ≤ length r
  placed : off_place (extents_of r) (origin_of r) ≡ false
  room : tray ≡ cells (extents_of r)
  sound : damaged (extents_of r) r ≡ false

module _ (b : List ℕ) (tray : ℕ) where
  readable : r.refusal_of b tray ≡ 0 → Readable b tray
  unfolding r.refusal_of r.declines r.headed stands_in number
  readable z =
      let n = (given_none (stands_in (r.declines b tray))).0 z in
      let d = neither (not (leb 12 (length b))) (damaged (extents_of b) b) (n Refusal.BadRecord) in
      let h = not-false _ d.0 in
      record {
        headed = leb-true 12 (length b) h;
        placed = rw h at (n Refusal.OffSize);
        room = eqb-true tray (cells (extents_of b)) (not-false _ (rw h at (n Refusal.WrongTray)));
        sound = d.1;
      }

  undeclined : Readable b tray → r.refusal_of b tray ≡ 0
  unfolding r.refusal_of r.declines r.headed given_by first table number stands_in
  undeclined k = rw (le-leb 12 (length b) k.headed, k.placed, eq-eqb tray (cells (extents_of b)) k.room, k.sound)

module _ (b t : List ℕ) where
  accepted_reading : r.refusal_of b (length t) ≡ 0 → r.reading b t ≡ r.accepted b
  unfolding r.reading
  accepted_reading z = rw (eq-eqb (r.refusal_of b (length t)) 0 z)

  no_decline : (a : Told) (t' : List ℕ) → r.outcome a t' ≡ r.reading b t → a.refusal ≡ 0 → r.refusal_of b (length t) ≡ 0
  unfolding r.reading r.accepted r.refused
  no_decline a t' promise fine = sym (outcome_refusal (λ (x : r.Outcome). x.answer.refusal) (r.refusal_of b (length t)) refl refl promise) ∙ fine

-- ---- the theorems

-- What `write_record` wrote, `read_record` reads back as the map, the extents and the origin it was written from.
pub written_read : (e o : Triple) (m t : List ℕ) (a : Written) (t' : List ℕ) → w.outcome a t' ≡ w.writing e o m t → a.refusal ≡ 0
    → ((x : Axis) → coord e x < 65536) → ((x : Axis) → coord o x < 65536) → EntriesBelow 4294967296 m
    → (s : List ℕ) → length s ≡ cells e → r.reading (take a.size t') s ≡ r.outcome (r.head_of 0 e o) m
unfolding w.accepted r.accepted
written_read e o m t a t' promise fine he ho hm s k =
    let E : List ℕ = encode_record e o m in
    let z : w.refusal_of e o m (length t) ≡ 0 = no_refusal e o m t a t' promise fine in
    let W : Writable e o m (length t) = writable e o m (length t) z in
    let acc : w.outcome a t' ≡ w.accepted e o m t = promise ∙ accepted_writing e o m t z in
    let written : a.size ≡ length E = ap (λ (x : w.Outcome). x.answer.size) acc in
    let tray : t' ≡ E ++ drop (length E) t = ap (λ (x : w.Outcome). x.tray) acc in
    let bytes : take a.size t' ≡ E = rw (written, tray) (take_at E (drop (length E) t) (length E) refl) in
    let ee : extents_of E ≡ e = encode_extents e o m he in
    let oo : origin_of E ≡ o = encode_origin e o m ho in
    let R : Readable E (length s) = record {
      headed = omega (arith, encode_length e o m);
      placed = rw (ee, oo) W.placed;
      room = k ∙ ap cells (sym ee);
      sound = rw ee (encode_whole e o m W.whole hm);
    } in
    let back : decode_record (cells e) E ≡ m = rw W.whole at (decode_encoded e o m hm) in
    rw bytes (accepted_reading E s (undeclined E (length s) R) ∙ rw (ee, oo, back))

-- Each record that `read_record` accepts is byte for byte the one its map would be written as.
pub read_written : (b t : List ℕ) (a : Told) (t' : List ℕ) → r.outcome a t' ≡ r.reading b t → a.refusal ≡ 0 → EntriesBelow 256 b
    → (s : List ℕ) → length b ≤ length s → w.writing (extents_of b) (origin_of b) t' s ≡ w.outcome (record { refusal = 0; size = length b }) (b ++ drop (length b) s)
unfolding w.accepted r.accepted
read_written b t a t' promise fine hb s k =
    let z : r.refusal_of b (length t) ≡ 0 = no_decline b t a t' promise fine in
    let R : Readable b (length t) = readable b (length t) z in
    let n : ℕ = cells (extents_of b) in
    let tray : t' ≡ decode_record n b = ap (λ (x : r.Outcome). x.tray) (promise ∙ accepted_reading b t z) in
    let same : encode_record (extents_of b) (origin_of b) t' ≡ b = rw tray (encode_decode b hb R.sound) in
    let W : Writable (extents_of b) (origin_of b) t' (length s) = record {
      placed = R.placed;
      whole = rw tray (length-decode n b);
      room = rw same k;
    } in
    accepted_writing (extents_of b) (origin_of b) t' s (unrefused (extents_of b) (origin_of b) t' (length s) W) ∙ rw same
