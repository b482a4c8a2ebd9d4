-- What holds of lists of statement 3's calls and the two calls of item 1. Start here; the definitions that it cites stand in the order of Lib.antt.
-- Assumes nothing.
use Rattle.std.specs.Prelude.{◌≡◌, ◌↔◌, ◌≢◌, true, ℕ, ◌+◌, ◌*◌, ◌<◌, ◌≤◌, get_or, length, ℤ, Float}
use mathlib.Core.List.{List, [], ◌∷◌, Memᴰ}
use Rattle.cells.specs.Box.{volume}
use Rattle.cells.specs.declared.Triple.{Triple}
use Rattle.cells.specs.Grid.{voxel, voxel_cell}
use Rattle.labels.specs.Number.{labels}
use Rattle.labels.specs.Components.{component, component_row}
use Rattle.cutting.specs.Cutting.{Cutting, blocks, block_extents, block_codes, embed}
use Rattle.joiner.specs.Job.{Told, Tables, State}
use Rattle.joiner.specs.Stages.{codes_of}
use Rattle.joiner.specs.Book.{Book, begun, turned}
use Rattle.joiner.specs.Statement.{Event, Labelling, Brings, Agrees}
use Rattle.extended.specs.Extended.{LongEvent, base, added, LongRun}
use Rattle.strains.specs.Units.{is_units, whole_units}
use Rattle.strains.specs.Readings.{units_sum}
use Rattle.strains.specs.declared.Reading.{Reading}
use Rattle.totals.specs.Totals.{reading_at}
use Rattle.totals.specs.declared.Side.{Side}
use Rattle.totals.specs.declared.Totals.{Totals}
use Rattle.strain_calls.specs.Tables.{TotalTables}
use Rattle.strain_calls.specs.Calls.{StrainCall, strain, total, StrainAnswer, strain_answer, no_side}
use Rattle.strain_calls.specs.Outcomes.{OpenedTotals, StrainStep}
use Rattle.theory_totals.specs.Book.{ReadingBook, no_readings, strain_book_refusal, strain_book_early, brings_map, strain_accepts, turned_readings, strain_book_answer, side_readings, face_totals, reading_from}

-- A call of the longer list.
abbrev pub StrainEvent : Type 0
StrainEvent = LongEvent StrainCall StrainAnswer TotalTables

-- The call brings the map `own b` of its block b.
abbrev pub StrainBrings : (ℕ → List ℕ) → StrainCall → Type 0
StrainBrings own (strain b m values kinds) = m ≡ own b
StrainBrings own (total n) = Unit {0}

-- "A call with a map other than its block's stands there only if refused."
abbrev pub LongFair : (ℕ → List ℕ) → List StrainEvent → Type 0
LongFair own [] = Unit {0}
LongFair own (base e ∷ es) = (e.answer.refusal ≡ 0 → Brings own e.call) × LongFair own es
LongFair own (added c a w ∷ es) = (a.refusal ≡ 0 → StrainBrings own c) × LongFair own es

-- One of the two calls against the day book and the book of readings.
pub record StrainAgrees (own : ℕ → List ℕ) (B : Book) (R : ReadingBook) (c : StrainCall) (a : StrainAnswer) : Type 0 where
  -- with its block's map it is never refused with 8, and gets any other refusal exactly when the book gives it
  pub no_stray : StrainBrings own c → a.refusal ≢ 8
  pub brought : StrainBrings own c → a.refusal ≡ strain_book_refusal B R c
  pub refused : brings_map B c ≡ true → a.refusal ≡ strain_book_refusal B R c
  -- with any map, 1 to 6 go by the book, whose numbers are 3 to 6
  pub early : strain_book_early B R c ≢ 0 → a.refusal ≡ strain_book_early B R c
  pub early_only : 0 < a.refusal → a.refusal ≤ 6 → a.refusal ≡ strain_book_early B R c
  -- what is accepted is what the book accepts, and a total is the uncut volume's
  pub judged : (a.refusal ≡ 0) ↔ (strain_accepts B R c ≡ true)
  pub answered : a.refusal ≡ 0 → a ≡ strain_book_answer B R c

-- The whole list against both books, which turn by the calls alone.
pub data StrainMeasured (own : ℕ → List ℕ) : Book → ReadingBook → List StrainEvent → Type 0 where
  none : {B : Book} {R : ReadingBook} → StrainMeasured own B R []
  next : {B : Book} {R : ReadingBook} {e : Event} {es : List StrainEvent} → Agrees own B e → StrainMeasured own (turned B e.call) R es → StrainMeasured own B R (base e ∷ es)
  next_added : {B : Book} {R : ReadingBook} {c : StrainCall} {a : StrainAnswer} {w : TotalTables} {es : List StrainEvent}
      → StrainAgrees own B R c a → StrainMeasured own B (turned_readings B R c) es → StrainMeasured own B R (added c a w ∷ es)

-- For every accepted opening and every list of calls after it, refused ones included, under what statement 3 supposes: the list is what the books say.
abbrev pub StrainStatement : Type 0
StrainStatement =
    (o : Told) (lent : Tables) (w v : TotalTables) (s : State) (own : ℕ → List ℕ) (es : List StrainEvent)
    → OpenedTotals o lent w s v
    → ((b : ℕ) → b < blocks o.cutting → Labelling (block_extents o.cutting b) (own b))
    → LongRun StrainStep s v es
    → LongFair own es
    → StrainMeasured own (begun o) no_readings es

-- ---- the totals that a list of calls reads

-- Each accepted step of a block brought the same two lists.
abbrev pub BringsLists : (ℕ → List Float) → (ℕ → List ℕ) → List StrainEvent → Type 0
BringsLists values kinds [] = Unit {0}
BringsLists values kinds (base e ∷ es) = BringsLists values kinds es
BringsLists values kinds (added (strain b m vs ks) a w ∷ es) = (a.refusal ≡ 0 → (vs ≡ values b) × (ks ≡ kinds b)) × BringsLists values kinds es
BringsLists values kinds (added (total n) a w ∷ es) = BringsLists values kinds es

-- T is read for face n in some list of calls after some accepted opening that was told o, in which block b brought the map own b and the readings values b and
-- kinds b; the orders of the calls, the refused calls and the tables are any.
pub record TotalRead (o : Told) (own : ℕ → List ℕ) (values : ℕ → List Float) (kinds : ℕ → List ℕ) (n : ℕ) (T : Totals) : Type 0 where
  pub lent : Tables
  pub before : TotalTables
  pub after : TotalTables
  pub begin : State
  pub calls : List StrainEvent
  pub opened : OpenedTotals o lent before begin after
  pub labelled : (b : ℕ) → b < blocks o.cutting → Labelling (block_extents o.cutting b) (own b)
  pub run : LongRun StrainStep begin after calls
  pub fair : LongFair own calls
  pub lists : BringsLists values kinds calls
  pub left : TotalTables
  pub read : Memᴰ (added (total n) (strain_answer 0 T) left) calls

-- The uncut map of a cutting with these maps of its blocks.
abbrev pub uncut_from : Cutting → (ℕ → List ℕ) → List ℕ
uncut_from k own = labels k.extents (codes_of k own)

-- A float that is so many 1,024ths, neither more nor less.
abbrev pub IsUnits : Float → ℤ → Type 0
IsUnits x z = (is_units 9007199254740992 x ≡ true) × (whole_units x ≡ z)

-- "Sums are then exact": the sum of each side is the sum over whole 1,024ths of the readings on that side of the uncut face, and no float beside it.
abbrev pub SumsExact : Type 0
SumsExact =
    (o : Told) (own : ℕ → List ℕ) (values : ℕ → List Float) (kinds : ℕ → List ℕ) (n : ℕ) (T : Totals)
    → TotalRead o own values kinds n T
    → IsUnits T.lower.sum (units_sum (side_readings o.cutting.extents (uncut_from o.cutting own) (reading_from o.cutting values kinds) n 0))
    × IsUnits T.higher.sum (units_sum (side_readings o.cutting.extents (uncut_from o.cutting own) (reading_from o.cutting values kinds) n 1))

-- ".. and are to equal the sum over whole 1,024ths for any order of blocks": sums and counts are the totals of the uncut face.
abbrev pub TotalsExact : Type 0
TotalsExact =
    (o : Told) (own : ℕ → List ℕ) (values : ℕ → List Float) (kinds : ℕ → List ℕ) (n : ℕ) (T : Totals)
    → TotalRead o own values kinds n T
    → T ≡ face_totals o.cutting.extents (uncut_from o.cutting own) (reading_from o.cutting values kinds) n

-- How many readings a side counts.
abbrev pub counted_on : Side → ℕ
counted_on d = d.strains + d.clipped + d.missing

-- Face n of a map is one to the outside: the second place of its row is 0, as in "5 0" (item 4).
abbrev pub BordersOutside : Triple → List ℕ → ℕ → Type 0
BordersOutside e m n = get_or (component_row e m 2 n) 1 0 ≡ 0

-- How many readings the totals of face n of a map count.
pub record ReadingCounts (e : Triple) (m : List ℕ) (n : ℕ) (T : Totals) : Type 0 where
  -- the lower side has one reading per cell
  pub lower : counted_on T.lower ≡ length (component e m 2 n)
  -- "strains, clipped and missing together are twice the face's cells": between two segments the higher side has one per cell too
  pub higher : (BordersOutside e m n → ⊥) → counted_on T.higher ≡ length (component e m 2 n)
  pub twice : (BordersOutside e m n → ⊥) → counted_on T.lower + counted_on T.higher ≡ 2 * length (component e m 2 n)
  -- "the outside .. has zero sums and counts .., whose total for that face is one reading per cell" (item 4)
  pub nothing : BordersOutside e m n → T.higher ≡ no_side
  pub one_per_cell : BordersOutside e m n → counted_on T.lower + counted_on T.higher ≡ length (component e m 2 n)

-- .. of the uncut face, in every total that is read.
abbrev pub TotalsWhole : Type 0
TotalsWhole =
    (o : Told) (own : ℕ → List ℕ) (values : ℕ → List Float) (kinds : ℕ → List ℕ) (n : ℕ) (T : Totals)
    → TotalRead o own values kinds n T
    → ReadingCounts o.cutting.extents (uncut_from o.cutting own) n T

-- Readings of voxels outside count nowhere (12 looks at them as at any other): where two lists of calls differ only in such readings, they give the same totals.
abbrev pub OutsideFree : Type 0
OutsideFree =
    (o : Told) (own : ℕ → List ℕ) (values values' : ℕ → List Float) (kinds kinds' : ℕ → List ℕ) (n : ℕ) (T T' : Totals)
    → ((b v : ℕ) → b < blocks o.cutting → v < volume (block_extents o.cutting b) → get_or (own b) (voxel_cell (block_extents o.cutting b) v) 0 ≢ 0
    → reading_at (values b) (kinds b) v ≡ reading_at (values' b) (kinds' b) v)
    → TotalRead o own values kinds n T
    → TotalRead o own values' kinds' n T'
    → T ≡ T'

-- ".. for any order of blocks": two lists of calls with the same readings give the same totals, bit for bit.
abbrev pub OrderFree : Type 0
OrderFree =
    (o : Told) (own : ℕ → List ℕ) (values : ℕ → List Float) (kinds : ℕ → List ℕ) (n : ℕ) (T T' : Totals)
    → TotalRead o own values kinds n T
    → TotalRead o own values kinds n T'
    → T ≡ T'

-- Cutting leaves no trace in the totals: where the blocks are those of one volume with these codes, and the reading of each voxel that is not outside is `reading` of its number in the
-- volume in every block that has it, the totals are those of the uncut volume, whatever the cutting and the order of blocks.
abbrev pub CuttingFree : Type 0
CuttingFree =
    (o : Told) (codes : List ℕ) (reading : ℕ → Reading) (own : ℕ → List ℕ) (values : ℕ → List Float) (kinds : ℕ → List ℕ) (n : ℕ) (T : Totals)
    → length codes ≡ volume o.cutting.extents
    → ((b : ℕ) → b < blocks o.cutting → own b ≡ labels (block_extents o.cutting b) (block_codes o.cutting b codes))
    → ((b v : ℕ) → b < blocks o.cutting → v < volume (block_extents o.cutting b) → get_or (own b) (voxel_cell (block_extents o.cutting b) v) 0 ≢ 0
    → reading_at (values b) (kinds b) v ≡ reading (voxel o.cutting.extents (embed o.cutting b (voxel_cell (block_extents o.cutting b) v))))
    → TotalRead o own values kinds n T
    → T ≡ face_totals o.cutting.extents (labels o.cutting.extents codes) (λ t q. reading (voxel o.cutting.extents q)) n
