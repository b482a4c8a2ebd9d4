-- One of the numbers is 0, or none.
use Rattle.std.proofs.Common.{ℕ, Bool, ◌∙◌, ◌+◌, ◌*◌, eqb, arith, rules, tests, refl}
use Rattle.std.proofs.lemmas.Iterator.{YieldsList-from_range}
use Rattle.std.proofs.lemmas.Iterator.Search.{any_from_yields_List}
use Rattle.records.specs.Fields.{field_at}
use Rattle.reader.proofs.LoadedLaws.{any_range}
use Rattle.reader.proofs.zero_listed.Goals as goal

pub returns : goal.returns
returns c =
    let test : ℕ → Bool = λ k. eqb (field_at c.args.bytes.now (c.args.at + 4 * k) 4) 0 in
    any_from_yields_List test _ _ c.any.result c.any.ensures.ran (YieldsList-from_range 0 c.args.count c.args.count refl (omega arith)) (λ x b q k. (search rules, search (rules, tests))) ∙ any_range test _ _
