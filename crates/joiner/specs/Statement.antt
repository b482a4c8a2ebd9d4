-- Statement 3: cutting leaves no trace. Start here; the definitions that it cites stand in the order of Lib.antt.
-- Assumes nothing.
use Rattle.std.specs.Prelude.{◌≡◌, ◌↔◌, ◌≢◌, true, ℕ, suc, ◌*◌, ◌/◌, ◌%◌, ◌<◌, ◌≤◌, get_or, length, take}
use mathlib.Core.List.{List, [], ◌∷◌, Memᴰ}
use Rattle.lists.specs.Lists.{tabulate}
use Rattle.cells.specs.Box.{volume}
use Rattle.cells.specs.declared.Triple.{Triple}
use Rattle.labels.specs.Number.{labels}
use Rattle.labels.specs.Components.{largest, first_cell, component_row}
use Rattle.cutting.specs.Cutting.{blocks, block_extents}
use Rattle.joiner.specs.Job.{Kind, order_of, width, Stage, Closed, Told, Tables, State}
use Rattle.joiner.specs.Stages.{steps_of}
use Rattle.joiner.specs.Calls.{Call, enrol, join, cross, point, look, reading, Answer}
use Rattle.joiner.specs.Outcomes.{Opened, CallStep}
use Rattle.joiner.specs.Book.{Book, begun, uncut, book_refusal, book_early, brings_own, accepts, turned, book_answer}

-- m is the map that one labelling of a block of e voxels left.
pub record Labelling (e : Triple) (m : List ℕ) : Type 0 where
  pub codes : List ℕ
  pub many : length codes ≡ volume e
  pub left : m ≡ labels e codes

-- A call of the list, what it answered, and the job and tables that it left.
pub record Event : Type 0 where
  pub call : Call
  pub answer : Answer
  pub after : State

-- Each call got the job and its tables "as the call before it, or at first the opening, left them".
pub data Run : State → List Event → Type 0 where
  none : {s : State} → Run s []
  next : {s : State} {e : Event} {es : List Event} → CallStep s e.call e.answer e.after → Run e.after es → Run s (e ∷ es)

-- The call brings the map `own b` of every block b that it names.
abbrev pub Brings : (ℕ → List ℕ) → Call → Type 0
Brings own (enrol b m) = m ≡ own b
Brings own (join b c m n) = (m ≡ own b) × (n ≡ own c)
Brings own (cross b m) = m ≡ own b
Brings own (point b m) = m ≡ own b
Brings own (look b m c) = m ≡ own b
Brings own (reading κ n) = Unit {0}

-- "A call with a map other than its block's stands there only if refused."
abbrev pub Fair : (ℕ → List ℕ) → List Event → Type 0
Fair own [] = Unit {0}
Fair own (e ∷ es) = (e.answer.refusal ≡ 0 → Brings own e.call) × Fair own es

-- All steps of all stages are ticked in the book.
abbrev pub AllDone : Book → Type 0
AllDone B = (s : Stage) (i : ℕ) → Memᴰ i (steps_of B.told.cutting s) → Memᴰ i B.done

-- "A closed job's tables hold the uncut first positions and these rows."
pub record Uncut (B : Book) (s : State) (κ : Kind) : Type 0 where
  pub total : s.job.numbered κ ≡ largest B.told.cutting.extents (uncut B) (order_of κ)
  pub firsts : take (s.job.numbered κ) (s.tables.firsts κ)
      ≡ tabulate (s.job.numbered κ) (λ i. first_cell B.told.cutting.extents (uncut B) (order_of κ) (suc i))
  pub rows : take (width κ * s.job.numbered κ) (s.tables.listed κ)
      ≡ tabulate (width κ * s.job.numbered κ) (λ i. get_or (component_row B.told.cutting.extents (uncut B) (order_of κ) (suc (i / width κ))) (i % width κ) 0)

-- "Compared with it are each call's refusal, each reading's answer, whether the job is closed, and a closed job's tables." The maps `own` are
-- those of the list's labellings.
pub record Agrees (own : ℕ → List ℕ) (B : Book) (e : Event) : Type 0 where
  -- "a call with such maps is never refused with 8, and gets any other refusal exactly when the day book gives it"
  pub no_stray : Brings own e.call → e.answer.refusal ≢ 8
  pub brought : Brings own e.call → e.answer.refusal ≡ book_refusal B e.call
  -- .. and so does one with maps that the book takes for its blocks'
  pub refused : brings_own B e.call ≡ true → e.answer.refusal ≡ book_refusal B e.call
  -- with any map, 1 to 6 go by the book, whose numbers are 3 to 6
  pub early : book_early B e.call ≢ 0 → e.answer.refusal ≡ book_early B e.call
  pub early_only : 0 < e.answer.refusal → e.answer.refusal ≤ 6 → e.answer.refusal ≡ book_early B e.call
  -- what is accepted is what the book accepts
  pub judged : (e.answer.refusal ≡ 0) ↔ (accepts B e.call ≡ true)
  pub answered : e.answer.refusal ≡ 0 → e.answer ≡ book_answer B e.call
  pub closed : (e.after.job.stage ≡ Closed) ↔ AllDone (turned B e.call)
  pub tables : e.after.job.stage ≡ Closed → (κ : Kind) → Uncut (turned B e.call) e.after κ

-- The whole list against the book, which turns by the calls alone.
pub data Measured (own : ℕ → List ℕ) : Book → List Event → Type 0 where
  none : {B : Book} → Measured own B []
  next : {B : Book} {e : Event} {es : List Event} → Agrees own B e → Measured own (turned B e.call) es → Measured own B (e ∷ es)

-- For every accepted opening with any allowed cutting and any tables, every list of calls after it, refused ones included: if the accepted
-- ones brought the map that one labelling of each block left, the same for all calls, then the list is what the book says.
abbrev pub Statement3 : Type 0
Statement3 =
    (o : Told) (lent : Tables) (s : State) (own : ℕ → List ℕ) (es : List Event)
    → Opened o lent s
    → ((b : ℕ) → b < blocks o.cutting → Labelling (block_extents o.cutting b) (own b))
    → Run s es
    → Fair own es
    → Measured own (begun o) es
