-- What `label` answers and leaves in the trays, for every input.
-- Assumes nothing.
use Rattle.std.specs.Prelude.{◌≡◌, Bool, cond, not, ◌&&◌, List, [], ◌∷◌, ℕ, eqb, length}
use Rattle.lists.specs.Lists.{zeros}
use Rattle.refusals.specs.declared.Refusal.{Refusal}
use Rattle.refusals.specs.Refusals.{Case, ◌if◌, given_refusal}
use Rattle.cells.specs.Box.{volume}
use Rattle.cells.specs.declared.Triple.{Triple}
use Rattle.cells.specs.Grid.{cells}
use Rattle.cells.specs.Extents.{Sized, off_size}
use Rattle.labels.specs.Number.{labels}
use Rattle.labels.specs.Components.{largest}
use Rattle.counts.specs.Counts.{Counted}

-- "The length of a tray, map, code list or table is not the stated one": codes for the voxels, map and working tray for the cells.
unfoldable pub wrong_tray : Triple → ℕ → ℕ → ℕ → Bool
wrong_tray e codes map work = not (eqb codes (volume e) && (eqb map (cells e) && eqb work (cells e)))

-- The cases of `label`, by the lengths of codes, map and working tray. Refusal 7 is no longer given.
unfoldable pub declines : Triple → ℕ → ℕ → ℕ → List Case
declines e codes map work = Refusal.OffSize if off_size 64 e ∷ Refusal.WrongTray if wrong_tray e codes map work ∷ []

-- The refusal of a call, 0 for none.
unfoldable pub refusal_of : Triple → ℕ → ℕ → ℕ → ℕ
refusal_of e codes map work = given_refusal (declines e codes map work)

-- The answer, and what the map tray and the working tray hold.
pub record Outcome : Type 0 where
  pub answer : Counted
  pub map_tray : List ℕ
  pub work_tray : List ℕ

abbrev pub outcome : Counted → List ℕ → List ℕ → Outcome
outcome r m w = record { answer = r; map_tray = m; work_tray = w }

-- Accepted: the block's map, "how many faces, curves and points there are", and zeros in the working tray.
unfoldable pub accepted : Triple → List ℕ → Outcome
accepted e codes =
    outcome (record { refusal = 0; faces = largest e (labels e codes) 2; curves = largest e (labels e codes) 1; points = largest e (labels e codes) 0 })
    (labels e codes) (zeros (cells e))

-- Refused: "a refusal returns its number, .. every other field 0 or empty, and changes no lent slice".
unfoldable pub refused : ℕ → List ℕ → List ℕ → Outcome
refused n m w = outcome (record { refusal = n; faces = 0; curves = 0; points = 0 }) m w

-- The outcome of a call with these extents, codes and trays.
unfoldable pub labelling : Triple → List ℕ → List ℕ → List ℕ → Outcome
labelling e codes m w =
    cond (eqb (refusal_of e (length codes) (length m) (length w)) 0) (accepted e codes) (refused (refusal_of e (length codes) (length m) (length w)) m w)

-- The extents and lengths of a block that is not refused for them.
pub record Ready (e : Triple) (codes map work : ℕ) : Type 0 where
  pub sized : Sized 64 e
  pub codes_are : codes ≡ volume e
  pub map_is : map ≡ cells e
  pub work_is : work ≡ cells e
