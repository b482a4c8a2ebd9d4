-- What `read_record` answers and leaves in the map tray, for every input: the block record, and what the service declines.
-- Assumes nothing.
use Rattle.std.specs.Prelude.{Bool, false, cond, not, ◌&&◌, ◌||◌, List, [], ◌∷◌, ◌≡◌, ℕ, eqb, leb, length, Result, Ok, Err}
use Rattle.refusals.specs.declared.Refusal.{Refusal}
use Rattle.refusals.specs.Refusals.{Case, ◌if◌, given_refusal, number}
use Rattle.cells.specs.declared.Triple.{Triple}
use Rattle.cells.specs.Extents.{off_place}
use Rattle.cells.specs.Grid.{cells}
use Rattle.records.specs.Record.{extents_of, origin_of, decode_record, damaged}
use Rattle.reader.specs.declared.Head.{Head}

-- All 12 head bytes are there.
unfoldable pub headed : List ℕ → Bool
headed r = leb 12 (length r)

-- The cases of `read_record`. "For the reader, 1 and 6 apply only when all 12 head bytes are there." The tray goes in by its length.
unfoldable pub declines : List ℕ → ℕ → List Case
declines r tray =
    Refusal.OffSize if (headed r && off_place (extents_of r) (origin_of r)) ∷
    Refusal.WrongTray if (headed r && not (eqb tray (cells (extents_of r)))) ∷
    Refusal.BadRecord if (not (headed r) || damaged (extents_of r) r) ∷
    []

-- The refusal of a call, 0 for none.
unfoldable pub refusal_of : List ℕ → ℕ → ℕ
refusal_of r tray = given_refusal (declines r tray)

-- The extents and the origin that a record tells, those of a block in its place.
pub record HeadOf (r : List ℕ) (h : Head) : Type 0 where
  pub size : h.size ≡ extents_of r
  pub origin : h.origin ≡ origin_of r
  pub placed : off_place h.size h.origin ≡ false

-- What a reading tells by number: its refusal's, 0 for none, and the extents and the origin of the block.
pub record Told : Type 0 where
  pub refusal : ℕ
  pub nx : ℕ
  pub ny : ℕ
  pub nz : ℕ
  pub ox : ℕ
  pub oy : ℕ
  pub oz : ℕ

abbrev pub head_of : ℕ → Triple → Triple → Told
head_of n e o = record { refusal = n; nx = e.x; ny = e.y; nz = e.z; ox = o.x; oy = o.y; oz = o.z }

-- .. by an answer: zeros where it is refused.
abbrev pub told : Result Head Refusal → Told
told (Ok h) = head_of 0 h.size h.origin
told (Err r) = record { refusal = number r; nx = 0; ny = 0; nz = 0; ox = 0; oy = 0; oz = 0 }

-- The answer, and what the map tray holds.
pub record Outcome : Type 0 where
  pub answer : Told
  pub tray : List ℕ

abbrev pub outcome : Told → List ℕ → Outcome
outcome a t = record { answer = a; tray = t }

-- Accepted: "the reader answers extents, origin and map".
unfoldable pub accepted : List ℕ → Outcome
accepted r = outcome (head_of 0 (extents_of r) (origin_of r)) (decode_record (cells (extents_of r)) r)

-- Refused: the number, and the tray as it was.
unfoldable pub refused : ℕ → List ℕ → Outcome
refused n t = outcome (record { refusal = n; nx = 0; ny = 0; nz = 0; ox = 0; oy = 0; oz = 0 }) t

-- The outcome of a call.
unfoldable pub reading : List ℕ → List ℕ → Outcome
reading r t = cond (eqb (refusal_of r (length t)) 0) (accepted r) (refused (refusal_of r (length t)) t)
