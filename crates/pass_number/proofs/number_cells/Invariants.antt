-- The cells of the first l lines are numbered, and their links are cleared.
use Rattle.std.proofs.Common.{◌-◌, ◌*◌, ◌≡◌}
use Rattle.pass_number.specs.Scan.{scanned}
use Rattle.pass_number.proofs.ScanLaws.{numbered_to}
use Rattle.pass_number.proofs.number_cells.Given as goal

abbrev pub invariant-loop-l : goal.invariant-loop-l
invariant-loop-l l =
    scanned l.map l.links l.total ≡ numbered_to l.e l.j l.initial.map l.initial.links (l.l * (2 * l.e.x - 1))
