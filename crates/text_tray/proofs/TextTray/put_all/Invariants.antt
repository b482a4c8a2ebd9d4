-- The numbers before n-index are put.
use Rattle.std.proofs.Common.{◌≡◌, take}
use Rattle.text.specs.Listing.{spaced}
use Rattle.text_tray.specs.Sunk.{state_of, sunk}
use Rattle.text_tray.proofs.TextTray.put_all.Given as goal

abbrev pub invariant-loop-n : goal.invariant-loop-n
invariant-loop-n l = record {
  put : state_of l.self ≡ sunk (state_of l.initial.self) (spaced (take l.n-index l.ns));
  same_tray : l.self.tray.ghost_name ≡ l.initial.self.tray.ghost_name;
}
