-- The cells from the k-th on are ahead.
use Rattle.std.proofs.Common.{ℕ, ◌+◌, ◌-◌, ◌*◌, Bool}
use lib.Dec.{eqb}
use Rattle.lists.specs.Lists.{consecutive, keep}
use Rattle.cells.specs.Grid.{order}
use Rattle.lines.proofs.WalkLaws.{rest_of}
use Rattle.pass_number.specs.Scan.{scanned}
use Rattle.pass_number.proofs.ScanLaws.{Ahead}
use Rattle.pass_number.proofs.number_line.Given as goal

abbrev pub invariant-loop-k : goal.invariant-loop-k
invariant-loop-k l =
    let e = l.e in
    let w : ℕ = 2 * e.x - 1 in
    let f : ℕ → Bool = λ p. eqb (order e p) l.fn.j in
    Ahead e (keep f (consecutive (l.fn.l * w) w)) (scanned l.initial.map l.initial.links l.initial.t) (l.line.base + (l.line.start + 2 * l.k)) (rest_of f l.line l.k) (scanned l.map l.links l.t)
