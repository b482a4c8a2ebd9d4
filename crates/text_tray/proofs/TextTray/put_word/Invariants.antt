-- The bytes before b-index are put.
use Rattle.std.proofs.Common.{◌≡◌, take}
use Rattle.text_tray.specs.Sunk.{state_of, sunk}
use Rattle.text_tray.proofs.TextTray.put_word.Given as goal

abbrev pub invariant-loop-b : goal.invariant-loop-b
invariant-loop-b l = record {
  put : state_of l.self ≡ sunk (state_of l.initial.self) (take l.b-index l.word);
  same_tray : l.self.tray.ghost_name ≡ l.initial.self.tray.ghost_name;
}
