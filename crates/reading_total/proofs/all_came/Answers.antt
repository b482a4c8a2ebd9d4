-- The chain tests the blocks in turn.
use Rattle.std.proofs.Common.{ℕ, ◌∙◌, arith, rules, tests, refl}
use Rattle.std.proofs.lemmas.Iterator.{YieldsList-from_range}
use Rattle.std.proofs.lemmas.Iterator.Search.{all_from_yields_List}
use Rattle.stages.specs.Ticks.{ticked_in}
use Rattle.reading_total.proofs.TotalLaws.{all_range}
use Rattle.reading_total.proofs.all_came.Goals as goal

pub returns : goal.returns
returns c =
    let n : ℕ = c.args.count in
    all_from_yields_List (ticked_in c.args.came.now) _ _ c.all.result c.all.ensures.ran (YieldsList-from_range 0 n n refl (omega arith)) (λ x b q k. search (rules, tests)) ∙ all_range (ticked_in c.args.came.now) 0 n
