-- The chain asks of the blocks in turn.
use Rattle.std.proofs.Common.{refl, arith, rules, tests, ◌∙◌}
use Rattle.std.proofs.lemmas.Iterator.{YieldsList-from_range}
use Rattle.std.proofs.lemmas.Iterator.Search.{all_from_yields_List}
use Rattle.judge_cross.specs.Tests.{crossed_but, last_in}
use Rattle.judge_cross.proofs.TestLaws.{all_told}
use Rattle.judge_cross.proofs.last_crossing.Goals as goal

pub returns : goal.returns
unfolding last_in
returns c =
    let n = c.args.blocks in
    all_from_yields_List (crossed_but c.args.ticks.now c.args.b) _ _ c.all.result c.all.ensures.ran (YieldsList-from_range 0 n n refl (omega arith)) (λ x b q k. search (rules, tests)) ∙ all_told _ n 0
