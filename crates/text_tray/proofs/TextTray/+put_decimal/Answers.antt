use Rattle.std.proofs.Common.{arith}
use Rattle.text_tray.proofs.NumberLaws.{decimal_put_low, decimal_put_high}
use Rattle.text_tray.proofs.TextTray.+put_decimal.Goals as goal
use Rattle.text_tray.proofs.TextTray.+put_decimal.Goals.{then-n-ge10, else-n-ge10}

pub returns-clause-put : goal.returns-clause-put
returns-clause-put t c =
    elim c.if-n-ge10.branch [
      | then-n-ge10 w ↦ decimal_put_high _ _ _ _ w.if-n-ge10.true (omega arith) w.put_decimal.ensures.put (rw w.self-is at c.put.ensures.put)
      | else-n-ge10 w ↦ decimal_put_low _ _ _ w.if-n-ge10.false (rw w.self-is at c.put.ensures.put)
    ]
