-- One of the bits past the cells stands, or none.
use Rattle.std.proofs.Common.{ℕ, Bool, ◌∙◌, ◌-◌, ◌*◌, eqb, arith, rules, tests, refl}
use Rattle.std.proofs.lemmas.Iterator.{YieldsList-from_range}
use Rattle.std.proofs.lemmas.Iterator.Search.{any_from_yields_List}
use Rattle.records.specs.Record.{bit_at, bitmap_length}
use Rattle.reader.proofs.LoadedLaws.{any_range}
use Rattle.reader.proofs.spare_set.Goals as goal

pub returns : goal.returns
unfolding bitmap_length
returns c =
    let n : ℕ = c.args.n in
    let test : ℕ → Bool = λ c'. eqb (bit_at c.args.bytes.now c') 1 in
    any_from_yields_List test _ _ c.any.result c.any.ensures.ran (YieldsList-from_range n (8 * c.div_ceil.result) (8 * bitmap_length n - n) refl (omega arith)) (λ x b q k. (search rules, search (rules, tests))) ∙ any_range test _ _
