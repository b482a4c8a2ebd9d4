-- `methods::Joining::lookup` meets its contract.
use Rattle.theory_service.specs.EntryContracts.{looked}
use Rattle.theory_service.proofs.Service.{called_step}
use Rattle.methods.proofs.Joining.lookup.Goals as goal

pub returns : goal.returns
returns c =
    λ t. called_step (looked {j = c.args.self.job} c.lookup.ensures)
