-- `methods::Joining::enrol` meets its contract.
use Rattle.job.specs.JobState.{job_after}
use Rattle.theory_service.specs.EntryContracts.{enrolled}
use Rattle.theory_service.proofs.Service.{called_step}
use Rattle.methods.proofs.Joining.enrol.Goals as goal

pub returns : goal.returns
returns c =
    λ t. called_step (enrolled {j = c.args.self.job} {j' = job_after c.args.self.job c.enrol.result} c.enrol.ensures)
