-- A turn writes the next row.
use Rattle.std.proofs.Common.{suc, arith}
use Rattle.lists.proofs.Overlay.{rows_none, rows_next}
use Rattle.pass_enrol.specs.EnrolledRows.{row_in}
use Rattle.pass_enrol.proofs.RowLaws.{number_has, number_row, row_fits, row_entry_lem}
use Rattle.pass_enrol.proofs.store_rows.Goals as goal

pub loop-i-init : goal.loop-i-init
loop-i-init c = rows_none _ _ _ _

pub row_for-row-requires : goal.row_for-row-requires
row_for-row-requires c = (c.requires.0, c.requires.1, number_has c.requires.0 _ _ _ c.requires.2 _ (c.requires.3.at _ (omega arith)))

pub shifted_row-stored-requires : goal.shifted_row-stored-requires
shifted_row-stored-requires c = row_fits c.requires.0 _ _ _ c.requires.2 _ (c.requires.3.at _ (omega arith)) _ c.requires.5 _ c.row_for-row.ensures

pub loop-i-preserved : goal.loop-i-preserved
loop-i-preserved c =
    let r = number_row c.requires.0 _ _ _ c.requires.2 _ (c.requires.3.at _ (omega arith)) _ c.row_for-row.ensures in
    rows_next _ _ _ (λ x k. row_in c.args.block.size c.args.shift c.args.map.now c.args.j (suc x) k) _ _ _ _ c.loop-i.invariant c.write_front.ensures
    (λ k _. row_entry_lem _ _ _ _ _ _ _ r c.shifted_row-stored.ensures k)
