-- The chain tests the voxels of the lists in turn.
use Rattle.std.proofs.Common.{length, refl, arith, rules, tests, ◌∙◌}
use Rattle.std.proofs.lemmas.Iterator.{YieldsList-from_range}
use Rattle.std.proofs.lemmas.Iterator.Search.{all_from_yields_List}
use Rattle.totals.specs.Totals.{fits_at}
use Rattle.totals.proofs.TotalLaws.{fit_told}
use Rattle.totals.proofs.readings_fit.Goals as goal

pub returns : goal.returns
returns c =
    let xs = c.args.values.now in
    let ks = c.args.kinds.now in
    all_from_yields_List (fits_at xs ks) _ _ c.all.result c.all.ensures.ran (YieldsList-from_range 0 (length xs) (length xs) refl (omega arith)) (λ x b q k. search (rules, tests)) ∙ fit_told xs ks
