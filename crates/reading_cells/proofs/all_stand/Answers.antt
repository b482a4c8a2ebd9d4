-- The chain tests the cells of the list in turn.
use Rattle.std.proofs.Common.{ℕ, Bool, ap, ◌∙◌, arith, rules, tests, refl}
use Rattle.std.proofs.lemmas.Iterator.{YieldsList-from_range}
use Rattle.std.proofs.lemmas.Iterator.Search.{all_from_yields_List}
use Rattle.lists.specs.Lists.{consecutive, all_of}
use Rattle.cell_calls.specs.Cells.{CellLists, cell_at}
use Rattle.judge_cells.proofs.TestLaws.{all_range}
use Rattle.reading_cells.specs.Inner.{sent, stands_at}
use Rattle.reading_cells.proofs.all_stand.Goals as goal

pub returns : goal.returns
returns c =
    let l : CellLists = sent c.args.cells.now in
    let test : ℕ → Bool = λ i. stands_at c.args.job c.args.from c.args.tables.now.faces.now c.args.tables.now.curves.now c.args.m.now (cell_at l i) in
    let n : ℕ = c.cell_count-n.result in
    all_from_yields_List test _ _ c.all.result c.all.ensures.ran (YieldsList-from_range 0 n n refl (omega arith)) (λ x b q k. search (rules, tests)) ∙ all_range test 0 n
    ∙ ap (λ m. all_of test (consecutive 0 m)) c.cell_count-n.ensures
