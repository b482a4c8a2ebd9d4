-- What every accepted step does to the job and its ticks. Assumes nothing.
use Rattle.std.specs.Prelude.{◌≡◌, List, ℕ, ◌+◌, set}
use Rattle.joiner.specs.Stages.{next_after}
use Rattle.blocks.specs.declared.Cuts.{Cuts}
use Rattle.counts.specs.declared.Counts.{Counts}
use Rattle.job.specs.declared.Job.{Job}
use Rattle.job.specs.declared.Stage.{Stage}
use Rattle.job.specs.JobState.{by_kind, job_by, numbered_tally, stage_of}
use Rattle.job.specs.JobWith.{job_with}
use Rattle.stages.specs.Ticks.{ticked_in}

-- The job in a stage, with more faces, curves and points.
abbrev pub moved_on : Job → Stage → Counts → Job
moved_on j stage more = job_with j stage (by_kind (j.sofar.faces + more.faces) (j.sofar.curves + more.curves) (j.sofar.points + more.points)) (numbered_tally j)

-- The job and the ticks after a step: "ticked and the stage moved".
pub record Advanced (j : Job) (c : Cuts) (ticks ticks' : List ℕ) (step : ℕ) (more : Counts) (r : Job) : Type 0 where
  pub is : r ≡ moved_on j r.stage more
  pub one : ticks' ≡ set ticks step 1
  pub next : stage_of r.stage ≡ next_after (job_by j c).told.cutting (ticked_in ticks') (stage_of j.stage)
