-- `methods::Joining::total` meets its contract.
use Rattle.methods.proofs.Joining.total.Goals as goal

pub returns : goal.returns
returns c = c.total.ensures
