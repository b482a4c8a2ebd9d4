-- A position in the grid of a block fits.
use Rattle.std.proofs.Common.{arith}
use Rattle.pass_join.proofs.JoinLaws.{cell_fits}
use Rattle.pass_join.proofs.face_at.Goals as goal

pub overflow_cast-result : goal.overflow_cast-result
overflow_cast-result c = omega (arith, cell_fits c.requires.0 c.requires.2)
