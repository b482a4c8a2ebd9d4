-- The chain tests the cells of the lists in turn.
use Rattle.std.proofs.Common.{ℕ, Bool, ap, ◌∙◌, arith, rules, tests, refl}
use Rattle.std.proofs.lemmas.Iterator.{YieldsList-from_range}
use Rattle.std.proofs.lemmas.Iterator.Search.{all_from_yields_List}
use Rattle.lists.specs.Lists.{consecutive, all_of}
use Rattle.cells.specs.Grid.{sides}
use Rattle.cell_calls.specs.Cells.{CellLists, cell_lists, cell_at, in_grid, all_in_grid}
use Rattle.judge_cells.proofs.TestLaws.{all_range}
use Rattle.judge_cells.proofs.CellLists.all_in_grid.Goals as goal

pub returns : goal.returns
unfolding all_in_grid
returns c =
    let l : CellLists = cell_lists c.args.self.now.x.now c.args.self.now.y.now c.args.self.now.z.now in
    let test : ℕ → Bool = λ i. in_grid (sides c.args.e) (cell_at l i) in
    let n : ℕ = c.cell_count-n.result in
    all_from_yields_List test _ _ c.all.result c.all.ensures.ran (YieldsList-from_range 0 n n refl (omega arith)) (λ x b q k. search (rules, tests)) ∙ all_range test 0 n
    ∙ ap (λ m. all_of test (consecutive 0 m)) c.cell_count-n.ensures
