use Rattle.job.proofs.JobLaws.{empty_of}
use Rattle.job.proofs.Job.empty.Goals as goal

pub returns : goal.returns
returns c = empty_of _ c.fresh.ensures
