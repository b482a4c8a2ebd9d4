-- `methods::Joining::row` meets its contract.
use Rattle.theory_service.specs.EntryContracts.{read}
use Rattle.theory_service.proofs.Service.{called_step}
use Rattle.methods.proofs.Joining.row.Goals as goal

pub returns : goal.returns
returns c =
    λ cx cy cz t. called_step (read {j = c.args.self.job} c.row.ensures)
