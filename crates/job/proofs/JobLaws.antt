-- Tests in the order of the code, the lengths of tables, and the job of a refused opening.
-- Assumes nothing.
use mathlib.Core.Path.{◌≡◌, refl, sym}
use mathlib.Core.Bool.{◌&&◌, and_assoc}
use mathlib.Core.List.{List, [], ◌∷◌, ◌++◌}
use Prim.Native.Nat.{ℕ, ◌*◌, ◌^◌, ◌≤◌, ◌<◌}
use native.Mathlib.Nat.{mul-le-mul}
use native.Mathlib.Omega.{arith}
use lib.Dec.{eqb}
use Rattle.joiner.specs.Job.{Kind, Face, Curve, Point, Tray, lengths_fit, same_stage}
use Rattle.joiner.specs.Outcomes.{Fresh, nothing}
use Rattle.job.specs.declared.Stage.{Stage}
use Rattle.job.specs.declared.Job.{Job}
use Rattle.job.specs.JobState.{by_kind, stage_of, job_of, no_counts, fresh_job, NoJob}
use Rattle.counts.specs.declared.Counts.{Counts}

-- ---- the lengths of tables

pub fits_append : (a b : List Tray) → lengths_fit (a ++ b) ≡ (lengths_fit a && lengths_fit b)
unfolding lengths_fit
fits_append [] b = refl
fits_append (t ∷ a) b = rw (fits_append a b) (sym (and_assoc (eqb t.has t.states) (lengths_fit a) (lengths_fit b)))

pub places_high : (w n : ℕ) → w < 256 → n < 2 ^ 32 → w * n ≤ 255 * 4294967295
places_high w n h k = mul-le-mul {n₂ = 255} {m₂ = 4294967295} (omega arith) (omega arith)

-- ---- the job of a refused opening

none_of : (κ : Kind) → ◌≡◌ {A = ℕ} (by_kind 0 0 0 κ) 0
none_of Face = refl
none_of Curve = refl
none_of Point = refl

-- a job that was just opened
pub fresh_of : (nx ny nz : ℕ) (n : Counts) (cx cy cz : List ℕ) → Fresh (job_of (fresh_job nx ny nz n) cx cy cz)
fresh_of nx ny nz n cx cy cz = record { stage = refl; sofar = none_of; numbered = none_of }

pub empty_of : (r : Job) → r ≡ fresh_job 0 0 0 no_counts → NoJob r
unfolding nothing
empty_of r e o t =
    rw e (record { extents = refl; entries = none_of; fresh = record { stage = refl; sofar = none_of; numbered = none_of }; tables = refl })

-- ---- stages

-- Whether two stages are one, as the derived equality tells it.
pub same_derived : (a b : Stage) → denote.Enum.Bare.sameb Rattle.job.specs.contracts.Stage.the_type a b ≡ same_stage (stage_of a) (stage_of b)
unfolding same_stage
same_derived Stage.Enrol Stage.Enrol = refl
same_derived Stage.Enrol Stage.Seam = refl
same_derived Stage.Enrol Stage.Crossing = refl
same_derived Stage.Enrol Stage.Points = refl
same_derived Stage.Enrol Stage.Closed = refl
same_derived Stage.Seam Stage.Enrol = refl
same_derived Stage.Seam Stage.Seam = refl
same_derived Stage.Seam Stage.Crossing = refl
same_derived Stage.Seam Stage.Points = refl
same_derived Stage.Seam Stage.Closed = refl
same_derived Stage.Crossing Stage.Enrol = refl
same_derived Stage.Crossing Stage.Seam = refl
same_derived Stage.Crossing Stage.Crossing = refl
same_derived Stage.Crossing Stage.Points = refl
same_derived Stage.Crossing Stage.Closed = refl
same_derived Stage.Points Stage.Enrol = refl
same_derived Stage.Points Stage.Seam = refl
same_derived Stage.Points Stage.Crossing = refl
same_derived Stage.Points Stage.Points = refl
same_derived Stage.Points Stage.Closed = refl
same_derived Stage.Closed Stage.Enrol = refl
same_derived Stage.Closed Stage.Seam = refl
same_derived Stage.Closed Stage.Crossing = refl
same_derived Stage.Closed Stage.Points = refl
same_derived Stage.Closed Stage.Closed = refl
