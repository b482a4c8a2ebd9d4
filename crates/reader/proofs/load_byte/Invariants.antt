-- k cells more are read, and the next listed number stands at place next.
use Rattle.std.proofs.Common.{◌+◌, ◌*◌, length}
use Rattle.reader.specs.Parts.{ReadTo}
use Rattle.reader.proofs.load_byte.Given as goal

abbrev pub invariant-loop-k : goal.invariant-loop-k
invariant-loop-k l = ReadTo l.bytes (length l.fn.map) (8 * l.i + l.k) l.next l.map
