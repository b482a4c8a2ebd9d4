-- A sum added to zero is the float of its whole 1,024ths.
use lib.Ieee.{of_bits}
use Rattle.totals.proofs.TotalLaws.{side_given}
use Rattle.totals.proofs.given.Goals as goal

pub returns : goal.returns
unfolding of_bits
returns c = side_given _ c.requires
