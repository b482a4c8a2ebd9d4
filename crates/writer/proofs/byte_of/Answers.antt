-- One bit more, and the last.
use Rattle.std.proofs.Common.{◌+◌, ◌*◌, ◌≤◌, ◌<◌, length, drop, arith, length-drop}
use Rattle.writer.specs.Inner.{byte_of}
use Rattle.writer.proofs.WriteLaws.{bits_low, bits_down}
use Rattle.writer.proofs.byte_of.Goals as goal

few : (c : goal.After-bit_of) → byte_of (drop c.loop-k.k c.args.map.now) < 128
few c = let d : length (drop c.loop-k.k c.args.map.now) ≤ 7 = simp length-drop (omega arith) in bits_low 7 _ d

pub overflow_mul-byte : goal.overflow_mul-byte
overflow_mul-byte c = omega (arith, few c)

pub overflow_add-byte : goal.overflow_add-byte
overflow_add-byte c = omega (arith, few c)

pub loop-k-preserved : goal.loop-k-preserved
loop-k-preserved c =
    let l = c.loop-k in
    bits_down c.args.map.now l.k l.byte (c.bit_of.result + 2 * l.byte) (omega arith) (omega arith) l.invariant (omega (arith, c.bit_of.ensures.0))
