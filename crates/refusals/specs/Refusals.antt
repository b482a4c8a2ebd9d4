-- What the service declines (document 01, and 12 by item 1 of document 02): the refusals by name and number. A public entry lists its own cases; which of them is given, one table decides.
-- 7 keeps its number, and no list has it since item 4 (`no_seven`, theory_refusals/proofs/NoSeven).
-- Assumes nothing.
use Rattle.std.specs.Prelude.{Bool, false, cond, List, [], ◌∷◌, map, ℕ, eqb, Result, Ok, Err}
use Rattle.refusals.specs.declared.Refusal.{Refusal}

-- The column "Number".
unfoldable pub number : Refusal → ℕ
number Refusal.OffSize = 1
number Refusal.BadCut = 2
number Refusal.WrongStage = 3
number Refusal.NoSuchPlace = 4
number Refusal.DoneAlready = 5
number Refusal.WrongTray = 6
number Refusal.BlankVoxel = 7
number Refusal.StrayLabel = 8
number Refusal.LayersDiffer = 9
number Refusal.TableFull = 10
number Refusal.BadRecord = 11
number Refusal.BadReading = 12

-- The number of what a call answers: its refusal's, 0 where it is accepted.
abbrev pub number_of : {A : Type 0} → Result A Refusal → ℕ
number_of (Ok x) = 0
number_of (Err r) = number r

-- The rows of the table, in the order in which refusals are given.
unfoldable pub table : List Refusal
table =
    Refusal.OffSize ∷ Refusal.BadCut ∷ Refusal.WrongStage ∷ Refusal.NoSuchPlace ∷ Refusal.DoneAlready ∷ Refusal.WrongTray ∷ Refusal.BlankVoxel ∷ Refusal.StrayLabel ∷ Refusal.LayersDiffer ∷ Refusal.TableFull ∷ Refusal.BadRecord ∷ Refusal.BadReading ∷ []

-- The number of the first refusal of a list whose case stands; 0 where none does.
unfoldable pub first : (Refusal → Bool) → List Refusal → ℕ
first stands [] = 0
first stands (r ∷ rs) = cond (stands r) (number r) (first stands rs)

-- "Where several apply, the lowest number is given": the first row of the table whose case stands.
unfoldable pub given_by : (Refusal → Bool) → ℕ
given_by stands = first stands table

-- A line of a public entry's own table: a refusal, and whether its case stands.
pub record Case : Type 0 where
  pub refusal : Refusal
  pub stands : Bool

-- Such a line by its parts.
infixl 70 ◌if◌
abbrev pub ◌if◌ : Refusal → Bool → Case
r if b = record { refusal = r; stands = b }

-- Whether the case of a refusal stands. One that a public entry does not list never does.
unfoldable pub stands_in : List Case → Refusal → Bool
stands_in [] r = false
stands_in (c ∷ cs) r = cond (eqb (number c.refusal) (number r)) c.stands (stands_in cs r)

-- What a public entry with these cases gives, 0 for none.
abbrev pub given_refusal : List Case → ℕ
given_refusal cs = given_by (stands_in cs)

-- The numbers that a public entry lists.
unfoldable pub listed_numbers : List Case → List ℕ
listed_numbers cs = map (λ c. number c.refusal) cs
