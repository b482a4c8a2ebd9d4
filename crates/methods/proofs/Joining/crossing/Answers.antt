-- `methods::Joining::crossing` meets its contract.
use Rattle.job.specs.JobState.{job_after}
use Rattle.theory_service.specs.EntryContracts.{crossed}
use Rattle.theory_service.proofs.Service.{called_step}
use Rattle.methods.proofs.Joining.crossing.Goals as goal

pub returns : goal.returns
returns c =
    λ t. called_step (crossed {j = c.args.self.job} {j' = job_after c.args.self.job c.crossing.result} c.crossing.ensures)
