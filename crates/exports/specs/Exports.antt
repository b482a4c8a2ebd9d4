-- What the exports of the joiner leave: the job is kept as thirteen numbers, lent with each call, and answers go to lent places.
-- Assumes nothing.
use Rattle.std.specs.Prelude.{cond, List, [], ◌∷◌, ◌≡◌, ℕ, eqb, get_or, Float}
use Rattle.joiner.specs.Job.{Kind, Told, Tables}
use Rattle.joiner.specs.Calls.{Call, reading, answer}
use Rattle.joiner.specs.Outcomes.{CallStep}
use Rattle.job.specs.declared.Job.{Job}
use Rattle.job.specs.declared.Stage.{Stage}
use Rattle.job.specs.JobState.{job_of, state_of, AnyCuts, AnyTables}
use Rattle.job.specs.Lent.{row_lent}
use Rattle.job_numbers.specs.Numbers.{job_in, kept_numbers}
use Rattle.totals.specs.declared.Totals.{Totals}
use Rattle.strain_calls.specs.Tables.{TotalTables}
use Rattle.strain_calls.specs.Outcomes.{TotalsOpening, StrainPromise, TotalPromise}

-- Of an opening: `TotalsOpening`, with the tables of the readings; its job is stored if it is accepted, and the numbers stay if it is refused.
pub record ExportedOpening (ns ns' : List ℕ) (o : Told) (t t' : Tables) (w w' : TotalTables) (r : ℕ) : Type 0 where
  pub job : Job
  pub opening : TotalsOpening o t w r (state_of job o.cutting.cx o.cutting.cy o.cutting.cz t') w'
  pub stored : ns' ≡ kept_numbers r ns job

-- Of a step: the joiner's `CallStep`, on all nineteen tables, from the job that the numbers tell. A number that is no stage is read as `other`,
-- which is not the call's. The job is stored if the step is accepted, and the numbers stay if it is refused.
pub record ExportedStep (ns ns' : List ℕ) (other : Stage) (cx cy cz : List ℕ) (t t' : Tables) (c : Call) (r : ℕ) : Type 0 where
  pub job : Job
  pub step : CallStep (state_of (job_in ns other) cx cy cz t) c (answer r 0 []) (state_of job cx cy cz t')
  pub numbers : ns' ≡ kept_numbers r ns job

-- Of a lookup: the joiner's `CallStep`; the number is stored if it is accepted, and stays if it is refused.
pub record ExportedLookup (ns : List ℕ) (other : Stage) (cx cy cz : List ℕ) (t : Tables) (c : Call) (r v v' : ℕ) : Type 0 where
  pub found : ℕ
  pub step : CallStep (state_of (job_in ns other) cx cy cz t) c (answer r found []) (state_of (job_in ns other) cx cy cz t)
  pub number : v' ≡ cond (eqb r 0) found v

-- A part filled with zeros to six places.
unfoldable pub six_of : List ℕ → List ℕ
six_of part = get_or part 0 0 ∷ get_or part 1 0 ∷ get_or part 2 0 ∷ get_or part 3 0 ∷ get_or part 4 0 ∷ get_or part 5 0 ∷ []

-- Of a row reading: the joiner's `CallStep`; the row is stored if it is accepted, and the places stay if it is refused.
pub record ExportedRow (j : Job) (cx cy cz : List ℕ) (t : Tables) (κ : Kind) (n r : ℕ) (row row' : List ℕ) : Type 0 where
  pub part : List ℕ
  pub step : CallStep (state_of j cx cy cz t) (reading κ n) (answer r 0 part) (state_of j cx cy cz t)
  pub places : row' ≡ cond (eqb r 0) (six_of part) row

-- It is lent the three closed tables of rows, and neither cut lists nor another table: the same whatever these are.
abbrev pub RowExported : Job → Kind → ℕ → List ℕ → List ℕ → List ℕ → ℕ → List ℕ → List ℕ → Type 0
RowExported j κ n faces curves points r row row' =
    AnyCuts (λ cx cy cz. AnyTables (λ t. ExportedRow j cx cy cz
    (row_lent t faces curves points) κ n r row row'))

-- ---- item 1

-- Of the readings' step: its promise, for the job that the numbers tell.
abbrev pub ExportedStrain : List ℕ → Stage → (cx cy cz blocks numbers : List ℕ) → TotalTables → ℕ → List ℕ → List Float → List ℕ → ℕ → TotalTables → Type 0
ExportedStrain ns other cx cy cz blocks numbers w b m values kinds r v = StrainPromise (job_of (job_in ns other) cx cy cz) blocks numbers w b m values kinds r v

-- Of a total: its promise; two sums and six counts are stored if it is accepted, and the places stay if it is refused.
pub record ExportedTotal (ns : List ℕ) (other : Stage) (cx cy cz : List ℕ) (w : TotalTables) (n r : ℕ) (sums sums' : List Float) (counts counts' : List ℕ) : Type 0 where
  pub found : Totals
  pub step : TotalPromise (job_of (job_in ns other) cx cy cz) w n r found
  pub sums_stored : sums' ≡ cond (eqb r 0) (found.lower.sum ∷ found.higher.sum ∷ []) sums
  pub counts_stored : counts' ≡ cond (eqb r 0)
      (found.lower.strains ∷ found.lower.clipped ∷ found.lower.missing ∷ found.higher.strains ∷ found.higher.clipped ∷ found.higher.missing ∷ []) counts
