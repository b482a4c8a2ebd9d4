-- `methods::Joining::open` meets its contract.
use Rattle.step_open.specs.Inner.{job_opened}
use Rattle.theory_service.specs.EntryContracts.{opened}
use Rattle.theory_service.proofs.Service.{opened_opening}
use Rattle.methods.proofs.Joining.open.Goals as goal

pub returns : goal.returns
returns c =
    opened_opening (opened {j = job_opened c.open.result} c.open.ensures)
