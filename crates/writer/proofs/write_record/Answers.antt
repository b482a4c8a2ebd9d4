-- An accepted call.
use Rattle.std.proofs.Common.{sym}
use Rattle.writer.proofs.WriteLaws.{write_accepted}
use Rattle.writer.proofs.write_record.Goals as goal

pub returns : goal.returns
returns c = sym (write_accepted _ _ _ _ _ _ c.in_ok-judge.ensures c.write_parts.ensures)
