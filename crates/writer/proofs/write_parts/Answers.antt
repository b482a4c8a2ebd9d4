-- The pieces make up the record.
use Rattle.std.proofs.Common.{arith}
use Rattle.records.specs.Record.{bitmap_length}
use Rattle.writer.proofs.WriteLaws.{pieces}
use Rattle.writer.proofs.write_parts.Goals as goal

pub returns : goal.returns
unfolding bitmap_length
returns c =
    pieces _ _ _ _ _ _ _ _ _ c.requires c.write_head.ensures c.write_bits.ensures (omega (arith, c.div_ceil.ensures)) c.write_numbers.ensures
