-- A job as thirteen numbers.
-- Assumes nothing.
use Rattle.std.specs.Prelude.{◌≡◌, cond, List, [], ◌∷◌, ℕ, eqb, get_or, Result}
use Rattle.joiner.specs.Job.{stage_number}
use Rattle.job.specs.declared.Job.{Job}
use Rattle.job.specs.declared.Stage.{Stage}
use Rattle.job.specs.JobState.{stage_of, job_after}
use Rattle.refusals.specs.declared.Refusal.{Refusal}
use Rattle.refusals.specs.Refusals.{number_of}

-- The stage with this number, `other` where there is none.
unfoldable pub stage_in : ℕ → Stage → Stage
stage_in n other =
    cond (eqb n 0) Stage.Enrol (cond (eqb n 1) Stage.Seam (cond (eqb n 2) Stage.Crossing (cond (eqb n 3) Stage.Points (cond (eqb n 4) Stage.Closed other))))

-- The job in a stage, with the numbers after the first.
abbrev pub job_at : Stage → List ℕ → Job
job_at s ns =
    record {
      stage = s;
      nx = get_or ns 1 0;
      ny = get_or ns 2 0;
      nz = get_or ns 3 0;
      entries = record { faces = get_or ns 4 0; curves = get_or ns 5 0; points = get_or ns 6 0 };
      sofar = record { faces = get_or ns 7 0; curves = get_or ns 8 0; points = get_or ns 9 0 };
      numbered = record { faces = get_or ns 10 0; curves = get_or ns 11 0; points = get_or ns 12 0 };
    }

-- The job that the numbers tell.
unfoldable pub job_in : List ℕ → Stage → Job
job_in ns other = job_at (stage_in (get_or ns 0 0) other) ns

-- The numbers of a job.
unfoldable pub numbers_of : Job → List ℕ
numbers_of j =
    stage_number (stage_of j.stage) ∷ j.nx ∷ j.ny ∷ j.nz ∷ j.entries.faces ∷ j.entries.curves ∷ j.entries.points ∷ j.sofar.faces ∷ j.sofar.curves ∷ j.sofar.points ∷
    j.numbered.faces ∷ j.numbered.curves ∷ j.numbered.points ∷ []

-- What is kept after a call that hands on job j: its numbers, and after a refusal those that were.
unfoldable pub kept_numbers : ℕ → List ℕ → Job → List ℕ
kept_numbers refusal ns j = cond (eqb refusal 0) (numbers_of j) ns

-- .. by the call's answer, whatever the job before is.
abbrev pub KeptAfter : List ℕ → List ℕ → Result Job Refusal → Type 0
KeptAfter ns ns' r = (j : Job) → ns' ≡ kept_numbers (number_of r) ns (job_after j r)
