-- `methods::Joining::strain` meets its contract.
use Rattle.methods.proofs.Joining.strain.Goals as goal

pub returns : goal.returns
returns c = c.strain.ensures
