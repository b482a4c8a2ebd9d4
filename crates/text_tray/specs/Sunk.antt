-- A text put byte by byte into a tray, from any place of the text on. Assumes nothing.
use Rattle.std.specs.Prelude.{cond, List, [], ◌∷◌, ◌++◌, ℕ, ◌+◌, ◌-◌, min, eqb, ltb, length, set, take, drop}
use Rattle.text_tray.specs.declared.Sink.{Sink}
use Rattle.text_tray.specs.declared.TextTray.{TextTray}

-- How many bytes of a text still stand before the part that is asked for, how many are in the tray, and the tray.
pub record State : Type 0 where
  pub skip : ℕ
  pub at : ℕ
  pub tray : List ℕ

abbrev pub state : Sink → List ℕ → State
state s t = record { skip = s.skip; at = s.at; tray = t }

-- .. where the sink is kept with its tray.
abbrev pub state_of : TextTray → State
state_of t = state t.sink t.tray.now

-- Before the first byte.
abbrev pub begun : ℕ → List ℕ → State
begun from t = record { skip = from; at = 0; tray = t }

-- A byte is passed over, or goes into the tray where there is room.
unfoldable pub sunk_byte : State → ℕ → State
sunk_byte s b =
    cond (eqb s.skip 0)
    (cond (ltb s.at (length s.tray)) (record { skip = 0; at = s.at + 1; tray = set s.tray s.at b }) s)
    (record { skip = s.skip - 1; at = s.at; tray = s.tray })

-- The bytes of a text, one after the other.
unfoldable pub sunk : State → List ℕ → State
sunk s [] = s
sunk s (b ∷ bs) = sunk (sunk_byte s b) bs

-- ---- a whole text

-- How many bytes of a text, from place `from` on, a tray holds.
unfoldable pub fitting : ℕ → List ℕ → ℕ → ℕ
fitting from text tray = min tray (length text - from)

-- A tray with those bytes at its start; its others stay.
unfoldable pub part : ℕ → List ℕ → List ℕ → List ℕ
part from text t = take (fitting from text (length t)) (drop from text) ++ drop (fitting from text (length t)) t
