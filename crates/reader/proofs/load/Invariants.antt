-- The numbers of the first i bytes are read.
use Rattle.std.proofs.Common.{◌*◌}
use Rattle.reader.specs.Parts.{ReadTo}
use Rattle.reader.proofs.load.Given as goal

abbrev pub invariant-loop-i : goal.invariant-loop-i
invariant-loop-i l = ReadTo l.bytes l.n (8 * l.i) l.at l.map
