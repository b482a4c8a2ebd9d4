-- What holds of lists of statement 3's calls and the two calls of item 1, whole.
-- Assumes nothing.
use mathlib.Core.Path.{◌≡◌, refl, sym, ap, ◌∙◌, subst}
use mathlib.Core.Bool.{true, false}
use mathlib.Core.List.Memᴰ
use mathlib.Core.List.{List, [], ◌∷◌}
use Prim.Native.Nat.{ℕ, ◌<◌}
use native.Mathlib.Omega.{arith}
use lib.Dec.{eqb, lit<}
use lib.IntN.{pos}
use lib.Ieee.{Float}
use borrow.Author.Tests.{eqb-true, eqb-false}
use Rattle.lists.specs.Lists.{is_in}
use Rattle.lists.proofs.Cases.{by_test, picked}
use Rattle.cells.specs.Extents.{off_size}
use Rattle.cutting.specs.Cutting.{Cutting, blocks, good_cut, block_extents}
use Rattle.joiner.specs.Book.{Book, accepts, begun, book_after, turned}
use Rattle.joiner.specs.Calls.{Answer, Call, cross, enrol, join, look, point, reading, stage_of}
use Rattle.joiner.specs.Declines.{refusal}
use Rattle.joiner.specs.Outcomes.{CallStep, Done}
use Rattle.joiner.specs.Job.{Closed, State, Tables, Told, stage_number}
use Rattle.joiner.specs.Statement.{Brings, Event, Fair, Labelling, Measured}
use Rattle.joiner.proofs.Simulation.{Sim, OneCall, book_stage, one_call}
use Rattle.joiner.proofs.Statement3.{begun_sim, opened_passed, statement3}
use Rattle.extended.specs.Extended.{base, added, LongRun, base_calls}
use Rattle.extended.proofs.ExtendedLaws.{base_run}
use Rattle.strains.specs.Units.{is_units}
use Rattle.strains.specs.Readings.{is_good}
use Rattle.strains.proofs.Sums.{float_none}
use Rattle.strains.proofs.Whole.{float_units}
use Rattle.totals.specs.Totals.{reading_at, reading_of}
use Rattle.strain_calls.specs.Tables.{TotalTables}
use Rattle.strain_calls.specs.Outcomes.{OpenedTotals, StrainStep}
use Rattle.theory_totals.specs.Book.{ReadingBook, no_readings, turned_readings}
use Rattle.theory_totals.specs.Statement.{StrainEvent, LongFair, StrainMeasured, StrainStatement}
use Rattle.pass_strain.specs.BlockReadings.{Brought}
use Rattle.theory_totals.specs.Volume.{sums_over, counts_over}
use Rattle.theory_totals.proofs.Recorded.{Emptied, opened_empty, Recorded}
use Rattle.theory_totals.proofs.StrainSteps.{one_reading}

-- ---- the start

-- no readings are readings
nothing_good : (i : ℕ) → is_good (reading_at [] [] i) ≡ true
unfolding reading_at reading_of is_good
nothing_good i = subst (λ (x : Float). is_units 2097152 x ≡ true) float_none (float_units (pos 0) 2097152 (lit< tt) (omega arith))

-- the tables that the opening left, and an empty book
pub begun_recorded : (o : Told) (own : ℕ → List ℕ) (v : TotalTables) (s : State) → Emptied o v → Recorded o own v (begun o) s no_readings v
unfolding no_readings is_in sums_over counts_over
begun_recorded o own v s Z =
    record {
      early = λ n. refl;
      long = Z.came_long;
      ticks = Z.none_come;
      sums = refl;
      counts = refl;
      once = tt;
      listed = λ b m. absurd (Memᴰ.not-nil m);
      readings = λ b i hb hi. nothing_good i;
    }

-- ---- a call of statement 3

-- where no block has come, what they bring does not count
module _ (k : Cutting) (g g' : ℕ → Brought) where
  sums_none : (sums : List Float) (bs : List ℕ) → bs ≡ [] → sums_over k g sums bs ≡ sums_over k g' sums bs
  unfolding sums_over
  sums_none sums bs z = ap (sums_over k g sums) z ∙ sym (ap (sums_over k g' sums) z)

  counts_none : (counts bs : List ℕ) → bs ≡ [] → counts_over k g counts bs ≡ counts_over k g' counts bs
  unfolding counts_over
  counts_none counts bs z = ap (counts_over k g counts) z ∙ sym (ap (counts_over k g' counts) z)

-- a call to a closed job changes nothing
still_book : (B : Book) (c : Call) → stage_number (stage_of c) ≡ stage_number Closed → book_after B c ≡ B
unfolding book_after
still_book B (enrol b m) h = absurd (omega arith)
still_book B (join b c m n) h = absurd (omega arith)
still_book B (cross b m) h = absurd (omega arith)
still_book B (point b m) h = absurd (omega arith)
still_book B (look b m c) h = refl
still_book B (reading κ n) h = refl

still_state : (s t : State) (c : Call) (a : Answer) → stage_number (stage_of c) ≡ stage_number Closed → Done s c a t → t ≡ s
still_state s t (enrol b m) a h D = absurd (omega arith)
still_state s t (join b c m n) a h D = absurd (omega arith)
still_state s t (cross b m) a h D = absurd (omega arith)
still_state s t (point b m) a h D = absurd (omega arith)
still_state s t (look b m c) a h D = D.1
still_state s t (reading κ n) a h D = D.1

module _ (o : Told) (own : ℕ → List ℕ) (ext : off_size 1024 o.cutting.extents ≡ false) (good : good_cut o.cutting ≡ true)
    (lab : (b : ℕ) → b < blocks o.cutting → Labelling (block_extents o.cutting b) (own b)) (v : TotalTables) (Z : Emptied o v) where
  abbrev k : Cutting
  k = o.cutting

  -- before anything has come the tables are as the opening left them, whatever the blocks bring
  none_over : (B C : Book) (s t : State) (R : ReadingBook) (w : TotalTables) → Recorded o own v B s R w → R.came ≡ [] → Recorded o own v C t R w
  none_over B C s t R w Q z =
      record {
        early = λ n. z;
        long = Q.long;
        ticks = Q.ticks;
        sums = Q.sums ∙ sums_none k _ _ v.sums R.came z;
        counts = Q.counts ∙ counts_none k _ _ v.counts R.came z;
        once = Q.once;
        listed = Q.listed;
        readings = Q.readings;
      }

  module _ (B : Book) (s : State) (S : Sim o own ext good lab B s) (e : Event) (P : CallStep s e.call e.answer e.after) (fair : e.answer.refusal ≡ 0 → Brings own e.call) where
    abbrev K : OneCall o own ext good lab B s S e
    K = one_call o own ext good lab B s S e P fair

    call_closed : stage_number B.stage ≡ stage_number Closed → refusal s e.call ≡ 0 → stage_number (stage_of e.call) ≡ stage_number Closed
    call_closed h r = sym (ap stage_number (book_stage o own ext good lab B s S e.call r)) ∙ h

    book_still : stage_number B.stage ≡ stage_number Closed → turned B e.call ≡ B
    unfolding turned
    book_still h =
        picked (λ (X : Book). X ≡ B) (accepts B e.call) (book_after B e.call) B
        (λ t. still_book B e.call (call_closed h (sym P.told ∙ K.agrees.judged.1 t))) (λ t. refl)

    state_still : stage_number B.stage ≡ stage_number Closed → e.after ≡ s
    state_still h =
        by_test (eqb (refusal s e.call) 0)
        (λ t. let r = eqb-true _ _ t in still_state s e.after e.call e.answer (call_closed h r) (P.accepted r))
        (λ t. (P.declined (eqb-false _ _ t)).1)

    -- A call of statement 3 leaves the readings as they are.
    pub base_recorded : (R : ReadingBook) (w : TotalTables) → Recorded o own v B s R w → Recorded o own v (turned B e.call) e.after R w
    base_recorded R w Q =
        by_test (eqb (stage_number B.stage) (stage_number Closed))
        (λ t.
        let h : stage_number B.stage ≡ stage_number Closed = eqb-true _ _ t in
        subst (λ (X : Book). Recorded o own v X e.after R w) (sym (book_still h)) (subst (λ (x : State). Recorded o own v B x R w) (sym (state_still h)) Q))
        (λ t. none_over B (turned B e.call) s e.after R w Q (Q.early (eqb-false _ _ t)))

  -- ---- the list

  measured : (B : Book) (s : State) (R : ReadingBook) (w : TotalTables) (es : List StrainEvent) → Sim o own ext good lab B s → Recorded o own v B s R w → LongRun StrainStep s w es → LongFair own es → StrainMeasured own B R es
  measured B s R w [] S Q L F = StrainMeasured.none
  measured B s R w (base e ∷ es) S Q (LongRun.next P L) F =
      let K = one_call o own ext good lab B s S e P F.0 in
      StrainMeasured.next K.agrees (measured (turned B e.call) e.after R w es K.after (base_recorded B s S e P F.0 R w Q) L F.1)
  measured B s R w (added c a u ∷ es) S Q (LongRun.next_added P L) F =
      let K = one_reading o own ext good lab v Z B s S R w Q c a u P F.0 in
      StrainMeasured.next_added K.agrees (measured B s (turned_readings B R c) u es S K.after L F.1)

-- For every accepted opening and every list of calls after it: the list is what the day book and the book of readings say.
pub strain_statement : StrainStatement
strain_statement o lent w v s own es P lab L F =
    let p = opened_passed o lent P.opened.accepted in
    let Z : Emptied o v = opened_empty o lent w s v P in
    measured o own p.0 p.1 lab v Z (begun o) s no_readings v es (begun_sim o lent s own P.opened lab) (begun_recorded o own v s Z) L F

-- ---- statement 3, cited

-- leaving out the two calls keeps what statement 3 supposes
pub base_fair : (own : ℕ → List ℕ) (es : List StrainEvent) → LongFair own es → Fair own (base_calls es)
unfolding base_calls
base_fair own [] f = tt
base_fair own (base e ∷ es) f = (f.0, base_fair own es f.1)
base_fair own (added c a w ∷ es) f = base_fair own es f.1

-- Statement 3's calls of the longer list are a list of statement 3: cutting still leaves no trace.
pub base_measured : (o : Told) (lent : Tables) (w v : TotalTables) (s : State) (own : ℕ → List ℕ) (es : List StrainEvent)
    → OpenedTotals o lent w s v
    → ((b : ℕ) → b < blocks o.cutting → Labelling (block_extents o.cutting b) (own b))
    → LongRun StrainStep s v es
    → LongFair own es
    → Measured own (begun o) (base_calls es)
base_measured o lent w v s own es O labelled run fair = statement3 o lent s own (base_calls es) O.opened labelled (base_run run) (base_fair own es fair)
