-- The larger of m and the numbers from the k-th cell on is the answer.
use Rattle.std.proofs.Common.{◌≡◌, max}
use lib.Dec.{eqb}
use Rattle.cells.specs.Grid.{order}
use Rattle.lines.proofs.WalkLaws.{rest_of}
use Rattle.pass_survey.specs.Survey.{on_line, most}
use Rattle.pass_survey.proofs.larger_on.Given as goal

abbrev pub invariant-loop-k : goal.invariant-loop-k
invariant-loop-k l =
    max l.m (most l.map (rest_of (λ p. eqb (order l.fn.e p) l.fn.j) l.line l.k)) ≡ max l.fn.number (most l.map (on_line l.fn.e l.fn.j l.fn.l))
