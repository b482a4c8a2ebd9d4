-- The bytes from b-index on lead from what has been read to the last.
use Rattle.std.proofs.Common.{◌≡◌, drop}
use Rattle.parser.specs.Scanning.{state_of, after}
use Rattle.parser.proofs.Scanner.scan.Given as goal

abbrev pub invariant-loop-b : goal.invariant-loop-b
invariant-loop-b l = record {
  leads : after (state_of l.initial.self) l.chunk ≡ after (state_of l.self) (drop l.b-index l.chunk);
  same_tray : l.self.codes.ghost_name ≡ l.initial.self.codes.ghost_name;
}
