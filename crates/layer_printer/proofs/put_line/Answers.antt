-- Its places, its spaces and its end.
use Rattle.std.proofs.Common.{arith}
use Rattle.layer_printer.proofs.PageLaws.{line_laid}
use Rattle.layer_printer.proofs.put_line.Goals as goal

pub returns : goal.returns
returns c = line_laid _ _ _ _ _ _ _ (omega arith) (omega arith) c.put_cells.ensures c.put_spaces.ensures
