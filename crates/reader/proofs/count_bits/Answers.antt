-- One bit more.
use Rattle.std.proofs.Common.{arith}
use Rattle.records.proofs.BitLaws.{bits_more, bits_bound}
use Rattle.records.proofs.ReadLaws.{bit_at_lt}
use Rattle.reader.proofs.count_bits.Goals as goal

pub overflow_add-count : goal.overflow_add-count
overflow_add-count c =
    let r = c.args.bytes.now in
    omega (arith, c.bit_at.ensures, bit_at_lt r c.loop-c.c, bits_bound r c.loop-c.c, c.requires.few)

pub loop-c-preserved : goal.loop-c-preserved
loop-c-preserved c = omega (arith, c.bit_at.ensures, bits_more c.args.bytes.now c.loop-c.c)
