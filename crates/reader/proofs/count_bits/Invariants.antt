-- The standing bits of the first c cells are counted.
use Rattle.std.proofs.Common.{◌≡◌}
use Rattle.records.specs.Record.{bits_before}
use Rattle.reader.proofs.count_bits.Given as goal

abbrev pub invariant-loop-c : goal.invariant-loop-c
invariant-loop-c l = l.count ≡ bits_before l.bytes l.c
