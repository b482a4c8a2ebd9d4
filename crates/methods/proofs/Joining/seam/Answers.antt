-- `methods::Joining::seam` meets its contract.
use Rattle.job.specs.JobState.{job_after}
use Rattle.theory_service.specs.EntryContracts.{joined}
use Rattle.theory_service.proofs.Service.{called_step}
use Rattle.methods.proofs.Joining.seam.Goals as goal

pub returns : goal.returns
returns c =
    λ t. called_step (joined {j = c.args.self.job} {j' = job_after c.args.self.job c.seam.result} c.seam.ensures)
