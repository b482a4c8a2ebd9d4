-- A dot, the digits, or five hash signs.
use Rattle.std.proofs.Common.{arith}
use Rattle.layer_printer.proofs.ColumnLaws.{number_columns, cell_inactive, cell_large, cell_number_lem}
use Rattle.layer_printer.proofs.put_cell.Goals as goal

pub returns-in-0 : goal.returns-in-0
returns-in-0 c = rw (cell_inactive c.args.n c.in-0.is) c.put_five.ensures

pub returns-in-1-to-99999 : goal.returns-in-1-to-99999
returns-in-1-to-99999 c =
    let n = c.args.n in
    rw (cell_number_lem n (omega arith) (omega arith), number_columns n (omega arith) (omega arith), ← c.column.ensures, ← c.column-in-1-to-99999.ensures, ← c.column-in-1-to-99999-2.ensures, ← c.column-in-1-to-99999-3.ensures, ← c.column-in-1-to-99999-4.ensures)
    c.put_five-in-1-to-99999.ensures

pub returns-in_default : goal.returns-in_default
returns-in_default c = rw (cell_large c.args.n (omega arith)) c.put_five-in_default.ensures
