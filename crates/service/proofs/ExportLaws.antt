-- The ways of an export.
-- Assumes nothing.
use mathlib.Core.Path.{◌≡◌, refl, sym, ap, ◌∙◌, subst}
use mathlib.Core.Bool.{true, false}
use mathlib.Core.Logic.{◌≢◌}
use mathlib.Core.List.{List, [], ◌∷◌}
use Prim.Native.Nat.{ℕ}
use lib.Ieee.{Float}
use Prim.Native.Nat.{◌+◌, ◌≤◌}
use native.Mathlib.Omega.{arith}
use lib.Dec.{ltb}
use Rattle.lists.proofs.Cases.{neither}
use borrow.Author.Tests.{eq-eqb, ne_eqb, ltb-false}
use Rattle.std.specs.Prelude.{Result, Ok, Err}
use Rattle.refusals.specs.declared.Refusal.{Refusal}
use Rattle.refusals.specs.Refusals.{number, number_of}
use Rattle.refusals.proofs.RefusalLaws.{number_nonzero, number_positive}
use Rattle.counts.specs.declared.Counts.{Counts}
use Rattle.counts.specs.Counts.{Counted, told, answer_stored}
use Rattle.counts.proofs.StoredLaws.{counts_kept, stored_three}
use Rattle.cells.specs.declared.Triple.{Triple}
use Rattle.cells.specs.Extents.{Sized, off_size, off_place}
use Rattle.extents.proofs.SizeLaws.{size_fits, sized_at}
use Rattle.labels.specs.OrderCounts.{cells_of_order}
use Rattle.writer.specs.Writing.{Outcome as WritingOutcome, outcome as writing_outcome, told as writing_told}
use Rattle.reader.specs.declared.Head.{Head}
use Rattle.reader.specs.Loaded.{Outcome as ReadingOutcome, outcome as reading_outcome, told as reading_told}
use Rattle.labeller.specs.Labelling.{Outcome, outcome}
use Rattle.maxima.specs.Maxima.{accepted, refused as most_declined, most_components}
use Rattle.maxima.proofs.MaximaLaws.{most_accepted, most_refused}
use Rattle.service.specs.Exports.{exported, export, ExportedMost, exported_most, export_most, exported_writing, export_writing, exported_reading, export_reading, head_stored}
use Rattle.joiner.specs.Job.{Kind, Tables}
use Rattle.joiner.specs.Calls.{Call, reading, answer}
use Rattle.joiner.specs.Outcomes.{CallStep}
use Rattle.job.specs.declared.Job.{Job}
use Rattle.job.specs.declared.Stage.{Stage}
use Rattle.job.specs.JobState.{AnyCuts, job_of, state_of, job_after, fresh_job, no_counts, AnyTables}
use Rattle.step_open.specs.Inner.{job_opened}
use Rattle.job.specs.Lent.{row_lent}
use Rattle.job_numbers.specs.Numbers.{job_in, KeptAfter}
use Rattle.totals.specs.declared.Totals.{Totals}
use Rattle.strain_calls.specs.Tables.{TotalTables}
use Rattle.strain_calls.specs.Outcomes.{StrainPromise, TotalPromise}
use Rattle.cell_calls.specs.Cells.{CellLists}
use Rattle.cell_calls.specs.Calls.{request, fill, cell_answer}
use Rattle.cell_calls.specs.Outcomes.{CellStep}
use Rattle.exports.specs.CellCalls.{ExportedRequest, ExportedFill}
use Rattle.exports.specs.Exports.{ExportedStep, ExportedLookup, ExportedStrain, ExportedTotal, RowExported, six_of}

-- no refusal has the number of an accepted call
pub refused : (q : Refusal) → number q ≢ 0
refused q z = absurd (omega (arith, number_positive q, z))

-- the job of a refused opening is kept as little as any other
pub opened_after : (a : Result Job Refusal) → job_after (fresh_job 0 0 0 no_counts) a ≡ job_opened a
opened_after (Ok j) = refl
opened_after (Err r) = refl

-- the refusal's number, as an answer tells it
pub told_refusal : (r : Result Counts Refusal) → (told r).refusal ≡ number_of r
told_refusal (Ok n) = refl
told_refusal (Err r) = refl

pub label_exported : (r : Result Counts Refusal) (m w c c' : List ℕ) (o : Outcome) (n : ℕ) → outcome (told r) m w ≡ o → c' ≡ answer_stored r c → n ≡ number_of r
    → exported n m w c' ≡ export o c
unfolding export
label_exported r m w c c' o n promise s e = rw (← promise, s, e, ← told_refusal r)

pub most_exported : (r : Result Counts Refusal) (c c' : List ℕ) (a : Counted) (n : ℕ) → told r ≡ a → c' ≡ answer_stored r c → n ≡ number_of r
    → exported_most n c' ≡ export_most a c
unfolding export_most
most_exported r c c' a n promise s e = rw (← promise, s, e, ← told_refusal r)

-- What `tugrelis_most_components` leaves, from its promise: for extents from 1 to 64 the numbers of face, curve and point cells at the three places, and else
-- what these held, with refusal 1.
pub most_places : (e : Triple) → Sized 64 e → (r x y z : ℕ) (c : List ℕ) → exported_most r c ≡ export_most (most_components e) (x ∷ y ∷ z ∷ [])
    → (r ≡ 0) × (c ≡ cells_of_order e 2 ∷ cells_of_order e 1 ∷ cells_of_order e 0 ∷ [])
unfolding export_most accepted
most_places e s r x y z c promise =
    let told = promise ∙ ap (λ (a : Counted). export_most a (x ∷ y ∷ z ∷ [])) (most_accepted e (size_fits 64 64 e (omega arith) s)) in
    (ap (λ (o : ExportedMost). o.refusal) told, ap (λ (o : ExportedMost). o.counts) told ∙ stored_three (cells_of_order e 2) (cells_of_order e 1) (cells_of_order e 0) x y z)

pub most_kept : (e : Triple) → off_size 64 e ≡ true → (r : ℕ) (c c' : List ℕ) → exported_most r c' ≡ export_most (most_components e) c → (r ≡ 1) × (c' ≡ c)
unfolding export_most most_declined
most_kept e t r c c' promise =
    let told = promise ∙ ap (λ (a : Counted). export_most a c) (most_refused e t) in
    (ap (λ (o : ExportedMost). o.refusal) told, ap (λ (o : ExportedMost). o.counts) told ∙ sym (counts_kept 1 0 0 0 c (omega arith)))

module _ (t : List ℕ) (l : ℕ) (o : WritingOutcome) where
  pub writing_stored : (n : ℕ) → writing_outcome (writing_told (Ok n)) t ≡ o → exported_writing 0 t n ≡ export_writing o l
  unfolding export_writing
  writing_stored n promise = rw (← promise)

  pub writing_refused : (r : Refusal) → writing_outcome (writing_told (Err r)) t ≡ o → exported_writing (number r) t l ≡ export_writing o l
  unfolding export_writing
  writing_refused r promise = rw (← promise, number_nonzero r)

module _ (t h : List ℕ) (o : ReadingOutcome) where
  pub reading_stored : (a : Head) → reading_outcome (reading_told (Ok a)) t ≡ o → exported_reading 0 t (head_stored a h) ≡ export_reading o h
  unfolding export_reading
  reading_stored a promise = rw (← promise)

  pub reading_refused : (r : Refusal) → reading_outcome (reading_told (Err r)) t ≡ o → exported_reading (number r) t h ≡ export_reading o h
  unfolding export_reading
  reading_refused r promise = rw (← promise, number_nonzero r)

-- the extents and the origin of a block in its place fit two bytes
pub placed_small : (e o : Triple) → off_place e o ≡ false → Sized 64 e × (o.x ≤ 1024) × (o.y ≤ 1024) × (o.z ≤ 1024)
unfolding off_place
placed_small e o t =
    let a = neither (off_size 64 e) _ t in
    let b = neither (ltb 1024 (o.x + e.x)) _ a.1 in
    let c = neither (ltb 1024 (o.y + e.y)) (ltb 1024 (o.z + e.z)) b.1 in
    (sized_at e o t, omega (arith, ltb-false 1024 (o.x + e.x) b.0), omega (arith, ltb-false 1024 (o.y + e.y) c.0), omega (arith, ltb-false 1024 (o.z + e.z) c.1))

-- ---- the joiner, on all nineteen tables

module _ (ns ns' : List ℕ) (other : Stage) (cx cy cz : List ℕ) (t t' : Tables) (c : Call) (a : Result Job Refusal) (n : ℕ) (told : n ≡ number_of a) (kept : KeptAfter ns ns' a) where
  pub step_exported : (j : Job) → j ≡ job_in ns other → CallStep (state_of j cx cy cz t) c (answer (number_of a) 0 []) (state_of (job_after j a) cx cy cz t') → ExportedStep ns ns' other cx cy cz t t' c n
  step_exported j e s =
      rw told (record { job = job_after j a; step = subst (λ (x : Job). CallStep (state_of x cx cy cz t) c (answer (number_of a) 0 []) (state_of (job_after j a) cx cy cz t')) e s; numbers = kept j })

module _ (ns : List ℕ) (other : Stage) (cx cy cz : List ℕ) (t : Tables) (c : Call) (r found v : ℕ) (j : Job) (e : j ≡ job_in ns other)
    (s : CallStep (state_of j cx cy cz t) c (answer r found []) (state_of j cx cy cz t)) where
  looked_up_lem : CallStep (state_of (job_in ns other) cx cy cz t) c (answer r found []) (state_of (job_in ns other) cx cy cz t)
  looked_up_lem = subst (λ (x : Job). CallStep (state_of x cx cy cz t) c (answer r found []) (state_of x cx cy cz t)) e s

  pub lookup_stored : r ≡ 0 → ExportedLookup ns other cx cy cz t c r v found
  lookup_stored z = record { found = found; step = looked_up_lem; number = rw (eq-eqb r 0 z) }

  pub lookup_refused : r ≢ 0 → ExportedLookup ns other cx cy cz t c r v v
  lookup_refused n = record { found = found; step = looked_up_lem; number = rw (ne_eqb r 0 n) }

-- how many blocks a request finds
module _ (ns : List ℕ) (other : Stage) (cx cy cz : List ℕ) (t : Tables) (l : CellLists) (w w' : List ℕ) (r found n : ℕ) (j : Job) (e : j ≡ job_in ns other)
    (s : CellStep (state_of j cx cy cz t) (request l w) (cell_answer r found w')) where
  request_step : CellStep (state_of (job_in ns other) cx cy cz t) (request l w) (cell_answer r found w')
  request_step = subst (λ (x : Job). CellStep (state_of x cx cy cz t) (request l w) (cell_answer r found w')) e s

  pub request_stored : r ≡ 0 → ExportedRequest ns other cx cy cz t l w w' r n found
  request_stored z = record { found = found; step = request_step; number = rw (eq-eqb r 0 z) }

  pub request_refused : r ≢ 0 → ExportedRequest ns other cx cy cz t l w w' r n n
  request_refused z = record { found = found; step = request_step; number = rw (ne_eqb r 0 z) }

-- a filling, from the job that the numbers tell
pub fill_exported : (ns : List ℕ) (other : Stage) (cx cy cz : List ℕ) (t : Tables) (l : CellLists) (b : ℕ) (m w : List ℕ) (r : ℕ) (w' : List ℕ) (j : Job) → j ≡ job_in ns other
    → CellStep (state_of j cx cy cz t) (fill l b m w) (cell_answer r 0 w') → ExportedFill ns other cx cy cz t l b m w r w'
fill_exported ns other cx cy cz t l b m w r w' j e s = subst (λ (x : Job). CellStep (state_of x cx cy cz t) (fill l b m w) (cell_answer r 0 w')) e s

-- the readings' step, from the job that the numbers tell
pub strain_exported : (ns : List ℕ) (other : Stage) (cx cy cz blocks numbers : List ℕ) (w : TotalTables) (b : ℕ) (m : List ℕ) (values : List Float) (kinds : List ℕ) (r : ℕ) (v : TotalTables) (j : Job)
    → j ≡ job_in ns other → StrainPromise (job_of j cx cy cz) blocks numbers w b m values kinds r v → ExportedStrain ns other cx cy cz blocks numbers w b m values kinds r v
strain_exported ns other cx cy cz blocks numbers w b m values kinds r v j e s = subst (λ (k : Job). StrainPromise (job_of k cx cy cz) blocks numbers w b m values kinds r v) e s

-- the sums and counts of a total
module _ (ns : List ℕ) (other : Stage) (cx cy cz : List ℕ) (w : TotalTables) (n r : ℕ) (found : Totals) (sums : List Float) (counts : List ℕ) (j : Job) (e : j ≡ job_in ns other)
    (s : TotalPromise (job_of j cx cy cz) w n r found) where
  total_step : TotalPromise (job_of (job_in ns other) cx cy cz) w n r found
  total_step = subst (λ (k : Job). TotalPromise (job_of k cx cy cz) w n r found) e s

  pub total_stored : r ≡ 0
      → ExportedTotal ns other cx cy cz w n r sums (found.lower.sum ∷ found.higher.sum ∷ []) counts
      (found.lower.strains ∷ found.lower.clipped ∷ found.lower.missing ∷ found.higher.strains ∷ found.higher.clipped ∷ found.higher.missing ∷ [])
  total_stored z = record { found = found; step = total_step; sums_stored = rw (eq-eqb r 0 z); counts_stored = rw (eq-eqb r 0 z) }

  pub total_refused : r ≢ 0 → ExportedTotal ns other cx cy cz w n r sums sums counts counts
  total_refused m = record { found = found; step = total_step; sums_stored = rw (ne_eqb r 0 m); counts_stored = rw (ne_eqb r 0 m) }

-- all tables, the closed rows being these
abbrev around : Tables → List ℕ → List ℕ → List ℕ → Tables
around t fs cs ps =
    row_lent t fs cs ps

module _ (j : Job) (κ : Kind) (n : ℕ) (fs cs ps : List ℕ) (r : ℕ) (part : List ℕ)
    (s : AnyCuts (λ cx cy cz. AnyTables (λ t. CallStep (state_of j cx cy cz (around t fs cs ps)) (reading κ n) (answer r 0 part) (state_of j cx cy cz (around t fs cs ps))))) where
  pub row_stored : r ≡ 0 → (row row' : List ℕ) → row' ≡ six_of part → RowExported j κ n fs cs ps r row row'
  row_stored z row row' e cx cy cz t = record { part = part; step = s cx cy cz t; places = rw (eq-eqb r 0 z) e }

  pub row_refused : r ≢ 0 → (row : List ℕ) → RowExported j κ n fs cs ps r row row
  row_refused m row cx cy cz t = record { part = part; step = s cx cy cz t; places = rw (ne_eqb r 0 m) }

-- a row of the job that the numbers tell
pub row_exported : (ns : List ℕ) (other : Stage) (κ : Kind) (n : ℕ) (fs cs ps : List ℕ) (r : ℕ) (row row' : List ℕ) (j : Job) → j ≡ job_in ns other
    → RowExported j κ n fs cs ps r row row' → RowExported (job_in ns other) κ n fs cs ps r row row'
row_exported ns other κ n fs cs ps r row row' j e x = subst (λ (y : Job). RowExported y κ n fs cs ps r row row') e x
