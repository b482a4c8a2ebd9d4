-- What `print_layer` answers and leaves in the tray, for every input (document 02, item 2).
-- Assumes nothing.
use Rattle.std.specs.Prelude.{cond, not, ◌||◌, List, [], ◌∷◌, ℕ, eqb, leb, length}
use Rattle.refusals.specs.declared.Refusal.{Refusal}
use Rattle.refusals.specs.Refusals.{Case, ◌if◌, given_refusal}
use Rattle.cells.specs.declared.Triple.{Triple}
use Rattle.cells.specs.Extents.{off_size}
use Rattle.cells.specs.Grid.{sides, cells}
use Rattle.layer_printer.specs.Printed.{printed_layer}

-- The cases of `print_layer`: 1 for an extent that is 0 or above 64, "a layer not there is 4", 6 for a map that has another length than the cells, or "a tray of another
-- length than the pages". The tray goes in by its length.
unfoldable pub declines : Triple → ℕ → List ℕ → ℕ → List Case
declines e z m tray =
    Refusal.OffSize if off_size 64 e ∷ Refusal.NoSuchPlace if leb (sides e).z z ∷
    Refusal.WrongTray if (not (eqb (length m) (cells e)) || not (eqb tray (length (printed_layer e z m)))) ∷ []

-- The refusal of a call, 0 for none.
unfoldable pub refusal_of : Triple → ℕ → List ℕ → ℕ → ℕ
refusal_of e z m tray = given_refusal (declines e z m tray)

-- The number answered, and what the tray holds.
pub record Outcome : Type 0 where
  pub refusal : ℕ
  pub tray : List ℕ

abbrev pub outcome : ℕ → List ℕ → Outcome
outcome n t = record { refusal = n; tray = t }

-- Accepted: the pages fill the tray.
unfoldable pub accepted : Triple → ℕ → List ℕ → Outcome
accepted e z m = outcome 0 (printed_layer e z m)

-- Refused: the number, and the tray as it was.
unfoldable pub refused : ℕ → List ℕ → Outcome
refused n t = outcome n t

-- The outcome of a call.
unfoldable pub layer_printing : Triple → ℕ → List ℕ → List ℕ → Outcome
layer_printing e z m t = cond (eqb (refusal_of e z m (length t)) 0) (accepted e z m) (refused (refusal_of e z m (length t)) t)
