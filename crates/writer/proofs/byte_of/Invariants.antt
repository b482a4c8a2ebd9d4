-- The byte has the bits of the numbers from k on.
use Rattle.std.proofs.Common.{◌≡◌, drop}
use Rattle.writer.specs.Inner.{byte_of}
use Rattle.writer.proofs.byte_of.Given as goal

abbrev pub invariant-loop-k : goal.invariant-loop-k
invariant-loop-k l = l.byte ≡ byte_of (drop l.k l.map)
