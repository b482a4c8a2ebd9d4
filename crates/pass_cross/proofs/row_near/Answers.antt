-- Zeros, or the row of two numbers or of four.
use Rattle.std.proofs.Common.{rules}
use Rattle.pass_cross.proofs.ReadLaws.{second_kept, row_idle, row_face, row_curve}
use Rattle.pass_cross.proofs.row_near.Goals as goal

pub returns-then-map-p-eq0 : goal.returns-then-map-p-eq0
returns-then-map-p-eq0 c = search row_idle

pub read_along-requires-in-Some : goal.read_along-requires-in-Some
read_along-requires-in-Some c = search (rules, second_kept)

pub returns-in-Some : goal.returns-in-Some
returns-in-Some c = search row_curve

pub returns-in-None : goal.returns-in-None
returns-in-None c = search row_face
