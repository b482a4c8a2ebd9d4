-- Two numbers, one after the other.
use Rattle.pass_cross.proofs.ReadLaws.{read_two}
use Rattle.pass_cross.proofs.read_along.Goals as goal

pub returns : goal.returns
returns c = search read_two
