-- The first l lines hold their codes, and the rest are as they came.
use Rattle.std.proofs.Common.{◌-◌, ◌*◌, ◌≡◌, ◌++◌, drop}
use Rattle.lists.specs.Lists.{tabulate}
use Rattle.labels.specs.Number.{code_at}
use Rattle.pass_fill.proofs.fill.Given as goal

abbrev pub invariant-loop-l : goal.invariant-loop-l
invariant-loop-l l =
    let p = l.l * (2 * l.e.x - 1) in
    l.map ≡ tabulate p (code_at l.e l.codes) ++ drop p l.initial.map
