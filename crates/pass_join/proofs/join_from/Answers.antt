-- A turn looks at the next of the later cells.
use Rattle.std.proofs.Common.{suc, ◌≡◌, ◌<◌, [], true, false, length, get_or, drop, sym, ◌∙◌, arith}
use native.Mathlib.Numerals.{add-one}
use lib.ListN.{drop_of_length-le}
use Rattle.std.proofs.lemmas.List.Elements.{All-get_or}
use Rattle.cells.specs.Row.{occupied, same_row}
use Rattle.union_find.proofs.LinkLaws.{left_all, left_united, left_none}
use Rattle.pass_join.specs.Around.{positions, rows_of}
use Rattle.pass_join.specs.JoinTrays.{alike_to}
use Rattle.pass_join.proofs.JoinLaws.{to_none, to_next, blank_row, filled_row, nobody, position_of, row_of_cell, length-positions, length-rows_of}
use Rattle.pass_join.proofs.join_from.Goals as goal
use Rattle.pass_join.proofs.join_from.Goals.{then-same_row, else-same_row}

pub returns-then-is_blank : goal.returns-then-is_blank
returns-then-is_blank c =
    let ns = c.args.cells.now in
    let i = c.args.i in
    let empty : occupied (get_or (rows_of ns) i []) ≡ false = rw (row_of_cell ns i) (blank_row _ c.is_blank.ensures c.if-is_blank.true) in
    rw (to_none (get_or (positions ns) i 0) _ empty (drop (suc i) (positions ns)) (drop (suc i) (rows_of ns))) (left_none (left_all _ []))

pub loop-k-preserved : goal.loop-k-preserved
loop-k-preserved c =
    let ns = c.args.cells.now in
    let i = c.args.i in
    let l = c.loop-k in
    let p = (get_or ns i nobody).at in
    let r = (get_or ns i nobody).row in
    let next = to_next p r (positions ns) (rows_of ns) l.k (omega (arith, length-positions ns)) (omega (arith, length-rows_of ns)) in
    let full : occupied r ≡ true = filled_row r c.is_blank.ensures c.if-is_blank.false in
    let below = All-get_or (λ n. n.at < length c.args.links.now) ns in
    let same : same_row r (get_or (rows_of ns) l.k []) ≡ c.same_row.result = rw (row_of_cell ns l.k) (sym c.same_row.ensures) in
    elim c.if-same_row.branch [
      | then-same_row w ↦ rw w.links-is (left_united (rw (next, full, same ∙ w.if-same_row.true, position_of ns l.k) at l.invariant) (omega (arith, below i nobody c.requires.0 c.requires.1)) (omega (arith, below l.k nobody c.loop-k-test.true c.requires.1)) w.unite.ensures)
      | else-same_row w ↦ rw w.links-is (rw (next, full, same ∙ w.if-same_row.false) at l.invariant)
    ]

pub returns : goal.returns
unfolding alike_to
returns c =
    let ns = c.args.cells.now in
    let i = c.args.i in
    rw (position_of ns i, row_of_cell ns i) (rw add-one at (left_none (rw (drop_of_length-le (positions ns) {i = c.loop-k.k} (omega (arith, length-positions ns))) at c.loop-k.invariant)))
