-- Statement 3 holds of the exports: for every opening through `tugrelis_open` that answers 0, and every list of calls through the other exports.
-- Assumes nothing.
use mathlib.Core.List.{List, []}
use mathlib.Core.Path.{◌≡◌, ◌∙◌, ap, ap₂, refl, subst, sym}
use Prim.Native.Nat.{ℕ, zero, suc, ◌<◌}
use lib.ListN.{length, take}
use native.Mathlib.Omega.{arith}
use borrow.Author.Tests.{ne_eqb}
use Rattle.cutting.specs.Cutting.{blocks, block_extents}
use Rattle.joiner.specs.Job.{Kind, width, Told, Tables, State}
use Rattle.joiner.specs.Calls.{Call, reading, Answer, answer}
use Rattle.joiner.specs.Outcomes.{CallStep}
use Rattle.joiner.specs.Book.{begun}
use Rattle.joiner.specs.Statement.{Event, Run, Fair, Labelling, Measured}
use Rattle.joiner.proofs.Statement3.{statement3}
use Rattle.job.specs.declared.Job.{Job}
use Rattle.job.specs.declared.Stage.{Stage}
use Rattle.job.specs.JobState.{state_of}
use Rattle.job_numbers.specs.Numbers.{job_in, numbers_of, kept_numbers}
use Rattle.job_numbers.proofs.NumberLaws.{job_back, kept_new, kept_old}
use Rattle.strain_calls.specs.Tables.{TotalTables}
use Rattle.strain_calls.specs.Outcomes.{OpenedTotals}
use Rattle.exports.specs.Exports.{ExportedOpening, ExportedStep, ExportedLookup, ExportedRow}
use Rattle.exports.specs.Calls.{Kept, keeps, state_kept, look_answer, row_answer, ExportedCall, stepped, looked, read, ExportedCalls, none, next}
use Rattle.exports.proofs.Rows.{row_wide, six_front}

-- The numbers are those of a job: so they are after an accepted opening, and so they stay.
pub record OfJob (ns : List ℕ) : Type 0 where
  pub job : Job
  pub numbers : ns ≡ numbers_of job

-- then they tell that job, whatever a number that is no stage is read as
told_job : {ns : List ℕ} (N : OfJob ns) (other : Stage) → job_in ns other ≡ N.job
told_job N other = ap (λ l. job_in l other) N.numbers ∙ job_back N.job other

pub told_same : {ns : List ℕ} → OfJob ns → (other : Stage) → job_in ns other ≡ job_in ns Stage.Enrol
told_same N other = told_job N other ∙ sym (told_job N Stage.Enrol)

-- the job of an accepted call is stored
stored : (ns : List ℕ) (j : Job) → kept_numbers 0 ns j ≡ numbers_of j
stored ns j = sym (kept_new 0 ns j refl (numbers_of j) refl)

-- ---- a call

pub not_zero : (n : ℕ) → suc n ≡ 0 → ⊥
not_zero n e = omega (arith, e)

-- the answer of a refused call
refused_answer : (s t : State) (c : Call) (n v : ℕ) (p : List ℕ) → CallStep s c (answer (suc n) v p) t → (answer (suc n) v p ≡ answer (suc n) 0 []) × (t ≡ s)
refused_answer s t c n v p S =
    let d = S.declined (λ z. not_zero n (S.told ∙ z)) in
    (d.0 ∙ ap (λ (r : ℕ). answer r 0 []) (sym S.told), d.1)

module _ (ns cx cy cz : List ℕ) (other : Stage) (N : OfJob ns) (t : Tables) (c : Call) where
  abbrev from : State
  from = state_kept (keeps ns cx cy cz t)

  -- a step from the job that the numbers tell
  from_told : (a : Answer) (to : State) → CallStep (state_of (job_in ns other) cx cy cz t) c a to → CallStep from c a to
  from_told a to S = subst (λ j. CallStep (state_of j cx cy cz t) c a to) (told_same N other) S

  step_kept : (ns' : List ℕ) (t' : Tables) (r : ℕ) → ExportedStep ns ns' other cx cy cz t t' c r
      → CallStep from c (answer r 0 []) (state_kept (keeps ns' cx cy cz t')) × OfJob ns'
  step_kept ns' t' zero X =
      let N' : OfJob ns' = record { job = X.job; numbers = X.numbers ∙ stored _ X.job } in
      (subst (λ j. CallStep from c (answer 0 0 []) (state_of j cx cy cz t')) (sym (told_job N' Stage.Enrol)) (from_told _ _ X.step), N')
  step_kept ns' t' (suc n) X =
      let S : CallStep from c (answer (suc n) 0 []) (state_of X.job cx cy cz t') = from_told _ _ X.step in
      let d : state_of X.job cx cy cz t' ≡ from = (refused_answer _ _ c n 0 [] S).1 in
      let e : ns' ≡ ns = X.numbers ∙ sym (kept_old (suc n) ns X.job (not_zero n)) in
      let g : state_kept (keeps ns' cx cy cz t') ≡ from = ap₂ (λ (l : List ℕ) (u : Tables). state_of (job_in l Stage.Enrol) cx cy cz u) e (ap (λ (s : State). s.tables) d) in
      (subst (CallStep from c (answer (suc n) 0 [])) (d ∙ sym g) S, record { job = N.job; numbers = e ∙ N.numbers })

  -- a reading, by its answer
  reading_kept : (a : Answer) → CallStep (state_of (job_in ns other) cx cy cz t) c a (state_of (job_in ns other) cx cy cz t) → (b : Answer) → a ≡ b
      → CallStep from c b from
  reading_kept a S b e =
      subst (λ (x : Answer). CallStep from c x from) e (subst (λ j. CallStep (state_of j cx cy cz t) c a (state_of j cx cy cz t)) (told_same N other) S)

-- the answer of a lookup is the number stored
number_kept : (ns cx cy cz : List ℕ) (other : Stage) (t : Tables) (c : Call) (r v v' : ℕ) (X : ExportedLookup ns other cx cy cz t c r v v')
    → answer r X.found [] ≡ look_answer r v'
number_kept ns cx cy cz other t c zero v v' X = ap (λ (x : ℕ). answer 0 x []) (sym X.number)
number_kept ns cx cy cz other t c (suc n) v v' X = rw (ne_eqb (suc n) 0 (not_zero n)) (refused_answer _ _ c n X.found [] X.step).0

-- the answer of a row reading is the front of the row stored
row_kept : (j : Job) (cx cy cz : List ℕ) (t : Tables) (κ : Kind) (n r : ℕ) (row row' : List ℕ) (X : ExportedRow j cx cy cz t κ n r row row')
    → answer r 0 X.part ≡ row_answer κ r row'
row_kept j cx cy cz t κ n zero row row' X =
    let acc = sym X.step.told in
    let p = ap (λ (a : Answer). a.part) (X.step.accepted acc).0 in
    let w = ap length p ∙ row_wide (state_of j cx cy cz t) κ n acc in
    ap (answer 0 0) (sym (ap (take (width κ)) X.places ∙ six_front κ X.part w))
row_kept j cx cy cz t κ n (suc r) row row' X = rw (ne_eqb (suc r) 0 (not_zero r)) (refused_answer _ _ (reading κ n) r 0 X.part X.step).0

-- An exported call is a step of the joiner, and the numbers stay those of a job.
abbrev pub numbers_kept : Kept → List ℕ
numbers_kept (keeps ns cx cy cz t) = ns

pub exported_step : {k l : Kept} {c : Call} {a : Answer} → ExportedCall k c a l → OfJob (numbers_kept k) → CallStep (state_kept k) c a (state_kept l) × OfJob (numbers_kept l)
exported_step (stepped X) N = step_kept _ _ _ _ _ N _ _ _ _ _ X
exported_step (looked X) N = (reading_kept _ _ _ _ _ N _ _ _ X.step _ (number_kept _ _ _ _ _ _ _ _ _ _ X), N)
exported_step (read other X) N = (reading_kept _ _ _ _ _ N _ _ _ X.step _ (row_kept _ _ _ _ _ _ _ _ _ _ X), N)

-- ---- a list of calls

-- A list of exported calls is one of the joiner's.
pub exported_run : {k : Kept} {es : List Event} → ExportedCalls k es → OfJob (numbers_kept k) → Run (state_kept k) es
exported_run none N = Run.none
exported_run (next C L) N = let S = exported_step C N in Run.next S.0 (exported_run L S.1)

-- the numbers and the opening that an accepted opening leaves
pub opened_numbers : {o : Told} {lent left : Tables} {w w' : TotalTables} {ns ns' : List ℕ} → ExportedOpening ns ns' o lent left w w' 0 → OfJob ns'
opened_numbers X = record { job = X.job; numbers = X.stored ∙ stored _ X.job }

pub opened_kept : {o : Told} {lent left : Tables} {w w' : TotalTables} {ns ns' : List ℕ} (X : ExportedOpening ns ns' o lent left w w' 0)
    → OpenedTotals o lent w (state_kept (keeps ns' o.cutting.cx o.cutting.cy o.cutting.cz left)) w'
unfolding opened_numbers
opened_kept {o = o} {lent = lent} {left = left} {w = w} {w' = w'} X =
    let O = X.opening.opened (sym X.opening.told) in
    subst (λ j. OpenedTotals o lent w (state_of j o.cutting.cx o.cutting.cy o.cutting.cz left) w') (sym (told_job (opened_numbers X) Stage.Enrol)) O

-- Statement 3 for the exports.
pub exports3 : (o : Told) (lent left : Tables) (w w' : TotalTables) (ns ns' : List ℕ) (own : ℕ → List ℕ) (es : List Event)
    → ExportedOpening ns ns' o lent left w w' 0
    → ((b : ℕ) → b < blocks o.cutting → Labelling (block_extents o.cutting b) (own b))
    → ExportedCalls (keeps ns' o.cutting.cx o.cutting.cy o.cutting.cz left) es
    → Fair own es
    → Measured own (begun o) es
exports3 o lent left w w' ns ns' own es X labelled calls fair =
    statement3 o lent (state_kept (keeps ns' o.cutting.cx o.cutting.cy o.cutting.cz left)) own es
    (opened_kept X).opened labelled (exported_run calls (opened_numbers X)) fair
