-- The points so far and those from the k-th cell on make the answer.
use Rattle.std.proofs.Common.{◌≡◌, ◌+◌, length}
use lib.Dec.{eqb}
use Rattle.cells.specs.Grid.{order}
use Rattle.lines.proofs.WalkLaws.{rest_of}
use Rattle.pass_survey.specs.Survey.{on_line}
use Rattle.pass_point.specs.FoundPoints.{found_among}
use Rattle.pass_point.proofs.count_line.Given as goal

abbrev pub invariant-loop-k : goal.invariant-loop-k
invariant-loop-k l =
    l.n + length (found_among l.fn.e l.f.numbers.now l.f.from l.map (rest_of (λ p. eqb (order l.fn.e p) 0) l.line l.k))
    ≡ l.fn.count + length (found_among l.fn.e l.f.numbers.now l.f.from l.map (on_line l.fn.e 0 l.fn.l))
