-- A public entry's outcome where its answer goes out by a number and lent places: labelling, the largest block, writing, reading. (For the joiner: crate `exports`.)
-- Assumes nothing.
use Rattle.std.specs.Prelude.{cond, List, [], ◌∷◌, ℕ, eqb, set}
use Rattle.labeller.specs.Labelling.{Outcome}
use Rattle.counts.specs.Counts.{Counted, counted_stored}
use Rattle.writer.specs.Writing.{Outcome as WritingOutcome}
use Rattle.reader.specs.Loaded.{Outcome as ReadingOutcome}
use Rattle.reader.specs.declared.Head.{Head}
use Rattle.totals.specs.declared.Totals.{Totals}

-- Of a labelling: the number given back, and what the trays and the three counts hold.
pub record Exported : Type 0 where
  pub refusal : ℕ
  pub map_tray : List ℕ
  pub work_tray : List ℕ
  pub counts : List ℕ

abbrev pub exported : ℕ → List ℕ → List ℕ → List ℕ → Exported
exported n m w c = record { refusal = n; map_tray = m; work_tray = w; counts = c }

-- The counts of faces, curves and points are stored at the three places, which held c, if the labelling is accepted, and these stay if it is refused.
unfoldable pub export : Outcome → List ℕ → Exported
export o c =
    let a = o.answer in
    exported a.refusal o.map_tray o.work_tray (counted_stored a c)

-- Of the largest block: the number given back, and what the three places hold.
pub record ExportedMost : Type 0 where
  pub refusal : ℕ
  pub counts : List ℕ

abbrev pub exported_most : ℕ → List ℕ → ExportedMost
exported_most n c = record { refusal = n; counts = c }

-- The most faces, curves and points are stored at the three places, which held c, if the call is accepted, and these stay if it is refused.
unfoldable pub export_most : Counted → List ℕ → ExportedMost
export_most a c = exported_most a.refusal (counted_stored a c)

-- Of a writing: the number given back, what the tray holds, and the length.
pub record ExportedWriting : Type 0 where
  pub refusal : ℕ
  pub tray : List ℕ
  pub size : ℕ

abbrev pub exported_writing : ℕ → List ℕ → ℕ → ExportedWriting
exported_writing n t l = record { refusal = n; tray = t; size = l }

-- The length is stored if the writing is accepted, and stays if it is refused.
unfoldable pub export_writing : WritingOutcome → ℕ → ExportedWriting
export_writing o l = exported_writing o.answer.refusal o.tray (cond (eqb o.answer.refusal 0) o.answer.size l)

-- Of a reading: the number given back, what the map tray holds, and the six numbers of the head.
pub record ExportedReading : Type 0 where
  pub refusal : ℕ
  pub tray : List ℕ
  pub fields : List ℕ

abbrev pub exported_reading : ℕ → List ℕ → List ℕ → ExportedReading
exported_reading n t h = record { refusal = n; tray = t; fields = h }

-- Extents and origin are stored at the six places if the reading is accepted, and these stay if it is refused.
unfoldable pub export_reading : ReadingOutcome → List ℕ → ExportedReading
export_reading o h =
    exported_reading o.answer.refusal o.tray
    (cond (eqb o.answer.refusal 0)
    (set (set (set (set (set (set h 0 o.answer.nx) 1 o.answer.ny) 2 o.answer.nz) 3 o.answer.ox) 4 o.answer.oy) 5 o.answer.oz) h)

-- The same places after the head of a record is stored.
abbrev pub head_stored : Head → List ℕ → List ℕ
head_stored a h = set (set (set (set (set (set h 0 a.size.x) 1 a.size.y) 2 a.size.z) 3 a.origin.x) 4 a.origin.y) 5 a.origin.z

-- The counts of both sides of a face.
abbrev pub counts_of : Totals → List ℕ
counts_of t = t.lower.strains ∷ t.lower.clipped ∷ t.lower.missing ∷ t.higher.strains ∷ t.higher.clipped ∷ t.higher.missing ∷ []
