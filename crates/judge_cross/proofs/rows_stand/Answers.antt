-- The chain asks of the entries in turn.
use Rattle.std.proofs.Common.{refl, arith, rules, tests, ◌∙◌, get_or}
use lib.Dec.{leb}
use Rattle.std.proofs.lemmas.Iterator.{YieldsList-from_range}
use Rattle.std.proofs.lemmas.Iterator.Search.{all_from_yields_List}
use Rattle.judge_cross.specs.Tests.{rows_in}
use Rattle.judge_cross.proofs.TestLaws.{all_told}
use Rattle.judge_cross.proofs.rows_stand.Goals as goal

pub returns : goal.returns
unfolding rows_in
returns c =
    let n = c.args.n in
    all_from_yields_List (λ i. leb (get_or c.args.rows.now i 0) c.args.faces) _ _ c.all.result c.all.ensures.ran (YieldsList-from_range 0 n n refl (omega arith)) (λ x b q k. search (rules, tests)) ∙ all_told _ n 0
