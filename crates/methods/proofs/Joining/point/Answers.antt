-- `methods::Joining::point` meets its contract.
use Rattle.job.specs.JobState.{job_after}
use Rattle.theory_service.specs.EntryContracts.{pointed}
use Rattle.theory_service.proofs.Service.{called_step}
use Rattle.methods.proofs.Joining.point.Goals as goal

pub returns : goal.returns
returns c =
    λ t. called_step (pointed {j = c.args.self.job} {j' = job_after c.args.self.job c.point.result} c.point.ensures)
