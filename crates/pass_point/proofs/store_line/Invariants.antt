-- The points from the k-th cell on are left.
use lib.Dec.{eqb}
use Rattle.cells.specs.Grid.{order}
use Rattle.lines.proofs.WalkLaws.{rest_of}
use Rattle.pass_survey.specs.Survey.{on_line}
use Rattle.pass_point.proofs.StoreLaws.{Left}
use Rattle.pass_point.proofs.store_line.Given as goal

abbrev pub invariant-loop-k : goal.invariant-loop-k
invariant-loop-k l =
    Left l.fn.v l.fn.block l.b l.map l.f.numbers.now l.f.from (on_line l.fn.block.size 0 l.fn.l) l.fn.at l.initial.keys l.initial.rows (rest_of (λ p. eqb (order l.fn.block.size p) 0) l.line l.k) l.n l.keys l.rows
