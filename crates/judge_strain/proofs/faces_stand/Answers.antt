-- The chain tests the faces in turn.
use Rattle.std.proofs.Common.{ℕ, Bool, ◌+◌, ap, ◌∙◌, arith, rules, tests, refl}
use Rattle.std.proofs.lemmas.Iterator.{YieldsList-from_range}
use Rattle.std.proofs.lemmas.Iterator.Search.{all_from_yields_List}
use Rattle.cells.specs.Grid.{cells}
use Rattle.judge_strain.specs.Tests.{face_in}
use Rattle.judge_strain.proofs.TestLaws.{faces_are}
use Rattle.judge_strain.proofs.faces_stand.Goals as goal

pub returns : goal.returns
returns c =
    let t = c.args.tables.now in
    let from : ℕ = c.args.entry.face_from in
    let n : ℕ = c.args.entry.faces in
    let test : ℕ → Bool = face_in t.numbers.now c.args.job.numbered.faces c.grid_cells.result t.sums.now t.counts.now in
    all_from_yields_List test _ _ c.all.result c.all.ensures.ran (YieldsList-from_range from (from + n) n refl (omega arith)) (λ x b q k. search (rules, tests))
    ∙ faces_are _ _ _ _ from n _ _ (c.grid_cells.ensures ∙ ap cells c.extents.ensures)
