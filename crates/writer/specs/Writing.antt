-- What `write_record` answers and leaves in the tray, for every input: the block record, and what the service declines.
-- Assumes nothing.
use Rattle.std.specs.Prelude.{cond, not, ◌||◌, List, [], ◌∷◌, ◌++◌, ℕ, eqb, ltb, length, drop, Result, Ok, Err}
use Rattle.refusals.specs.declared.Refusal.{Refusal}
use Rattle.refusals.specs.Refusals.{Case, ◌if◌, given_refusal, number}
use Rattle.cells.specs.declared.Triple.{Triple}
use Rattle.cells.specs.Extents.{off_place}
use Rattle.cells.specs.Grid.{cells}
use Rattle.records.specs.Record.{encode_record}

-- The cases of `write_record`. The tray goes in by its length.
unfoldable pub declines : Triple → Triple → List ℕ → ℕ → List Case
declines e o m tray =
    Refusal.OffSize if off_place e o ∷ Refusal.WrongTray if (not (eqb (length m) (cells e)) || ltb tray (length (encode_record e o m))) ∷ []

-- The refusal of a call, 0 for none.
unfoldable pub refusal_of : Triple → Triple → List ℕ → ℕ → ℕ
refusal_of e o m tray = given_refusal (declines e o m tray)

-- What a writing tells by number: its refusal's, 0 for none, and the length of the record.
pub record Written : Type 0 where
  pub refusal : ℕ
  pub size : ℕ

-- .. by an answer: no length where it is refused.
abbrev pub told : Result ℕ Refusal → Written
told (Ok n) = record { refusal = 0; size = n }
told (Err r) = record { refusal = number r; size = 0 }

-- The answer, and what the record tray holds.
pub record Outcome : Type 0 where
  pub answer : Written
  pub tray : List ℕ

abbrev pub outcome : Written → List ℕ → Outcome
outcome a t = record { answer = a; tray = t }

-- Accepted: the record, "its bytes after the record stay", and the record's length.
unfoldable pub accepted : Triple → Triple → List ℕ → List ℕ → Outcome
accepted e o m t = outcome (record { refusal = 0; size = length (encode_record e o m) }) (encode_record e o m ++ drop (length (encode_record e o m)) t)

-- Refused: the number, and the tray as it was.
unfoldable pub refused : ℕ → List ℕ → Outcome
refused n t = outcome (record { refusal = n; size = 0 }) t

-- The outcome of a call.
unfoldable pub writing : Triple → Triple → List ℕ → List ℕ → Outcome
writing e o m t = cond (eqb (refusal_of e o m (length t)) 0) (accepted e o m t) (refused (refusal_of e o m (length t)) t)
