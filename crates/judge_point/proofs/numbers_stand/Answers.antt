-- The chain asks of the curves in turn.
use Rattle.std.proofs.Common.{refl, arith, rules, tests, ◌+◌, ◌∙◌}
use Rattle.std.proofs.lemmas.Iterator.{YieldsList-from_range}
use Rattle.std.proofs.lemmas.Iterator.Search.{all_from_yields_List}
use Rattle.judge.specs.Judge.{number_stands_in}
use Rattle.judge_point.specs.Tests.{curves_in}
use Rattle.judge_point.proofs.TestLaws.{all_told}
use Rattle.judge_point.proofs.numbers_stand.Goals as goal

pub returns : goal.returns
unfolding curves_in
returns c =
    let i = c.args.from in
    let n = c.args.count in
    all_from_yields_List (number_stands_in c.args.curves.now c.args.most) _ _ c.all.result c.all.ensures.ran (YieldsList-from_range i (i + n) n refl (omega arith)) (λ x b q k. search (rules, tests)) ∙ all_told _ n i
