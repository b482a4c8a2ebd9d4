-- A job whose stage and tallies are others: for the contracts of inner functions. Assumes nothing.
use Rattle.std.specs.Prelude.{ℕ}
use Rattle.joiner.specs.Job.{Kind, Face, Curve, Point}
use Rattle.job.specs.declared.Stage.{Stage}
use Rattle.job.specs.declared.Job.{Job}

-- The job in another stage, with other tallies.
abbrev pub job_with : Job → Stage → (Kind → ℕ) → (Kind → ℕ) → Job
job_with j stage sofar numbered =
    record {
      stage = stage;
      nx = j.nx;
      ny = j.ny;
      nz = j.nz;
      entries = j.entries;
      sofar = record { faces = sofar Face; curves = sofar Curve; points = sofar Point };
      numbered = record { faces = numbered Face; curves = numbered Curve; points = numbered Point };
    }
