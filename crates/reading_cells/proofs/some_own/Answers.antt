-- The chain tests the cells of the list in turn.
use Rattle.std.proofs.Common.{ℕ, Bool, ap, ◌∙◌, arith, rules, tests, refl}
use Rattle.std.proofs.lemmas.Iterator.{YieldsList-from_range}
use Rattle.std.proofs.lemmas.Iterator.Search.{any_from_yields_List}
use Rattle.lists.specs.Lists.{consecutive, some_of}
use Rattle.cell_calls.specs.Cells.{CellLists, cell_at}
use Rattle.judge_cells.proofs.TestLaws.{any_range}
use Rattle.reading_cells.specs.Inner.{sent, is_own}
use Rattle.reading_cells.proofs.some_own.Goals as goal

pub returns : goal.returns
returns c =
    let l : CellLists = sent c.args.cells.now in
    let test : ℕ → Bool = λ i. is_own c.args.from (cell_at l i) in
    let n : ℕ = c.cell_count-n.result in
    any_from_yields_List test _ _ c.any.result c.any.ensures.ran (YieldsList-from_range 0 n n refl (omega arith)) (λ x b q k. (search rules, search (rules, tests))) ∙ any_range test 0 n
    ∙ ap (λ m. some_of test (consecutive 0 m)) c.cell_count-n.ensures
