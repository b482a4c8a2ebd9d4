use Rattle.std.proofs.Common.{arith, ◌*◌, ◌-◌}
use Rattle.std.proofs.Math.Nat.{div-le_self}
use Rattle.cells.specs.Box.{place}
use Rattle.cells.specs.Grid.{sides}
use Rattle.cells.proofs.ExtentLaws.{cells_high}
use Rattle.text.specs.Listing.{coordinates}
use Rattle.printer.proofs.put_place.Goals as goal

pub overflow_cast-z : goal.overflow_cast-z
overflow_cast-z c = omega (arith, div-le_self c.args.p ((2 * c.args.e.x - 1) * (2 * c.args.e.y - 1)), cells_high c.requires.0)

pub returns-clause-put : goal.returns-clause-put
unfolding coordinates place sides
returns-clause-put c = c.put_all.ensures.put
