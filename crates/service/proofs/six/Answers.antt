use Rattle.exports.specs.Exports.{six_of}
use Rattle.service.proofs.six.Goals as goal

pub returns : goal.returns
unfolding six_of
returns c = rw (c.read_or.ensures, c.read_or-2.ensures, c.read_or-3.ensures, c.read_or-4.ensures, c.read_or-5.ensures, c.read_or-6.ensures)
