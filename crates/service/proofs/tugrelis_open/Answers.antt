use mathlib.Core.Path.{ap, ◌∙◌}
use Rattle.job.specs.JobState.{fresh_job, no_counts}
use Rattle.job_numbers.specs.Numbers.{kept_numbers}
use Rattle.step_open.specs.Inner.{job_opened}
use Rattle.service.proofs.ExportLaws.{opened_after}
use Rattle.service.proofs.tugrelis_open.Goals as goal

pub returns : goal.returns
returns c =
    rw c.hand_on.ensures.number
    (record {
      job = job_opened c.open-answer.result;
      opening = c.open-answer.ensures;
      stored = c.hand_on.ensures.kept (fresh_job 0 0 0 no_counts) ∙ ap (kept_numbers _ _) (opened_after c.open-answer.result);
    })
