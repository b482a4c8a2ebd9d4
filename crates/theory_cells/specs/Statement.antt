-- What holds of lists of statement 3's calls, those of another item (`extended`) and those about lists of cells. Start here; the definitions that it cites stand
-- in the order of Lib.antt.
-- Assumes nothing.
use Rattle.std.specs.Prelude.{◌≡◌, ◌↔◌, ◌≢◌, true, ℕ, ◌<◌, ◌≤◌, get_or, length, take, drop}
use mathlib.Core.List.{List, [], ◌∷◌, Memᴰ}
use Rattle.lists.specs.Lists.{tabulate}
use Rattle.cells.specs.Box.{volume}
use Rattle.labels.specs.Number.{labels}
use Rattle.cutting.specs.Cutting.{Cutting, blocks, block_extents, block_codes}
use Rattle.joiner.specs.Job.{Told, Tables, State}
use Rattle.joiner.specs.Stages.{codes_of, lowest_block}
use Rattle.joiner.specs.Outcomes.{Opened, CallStep, looked_up}
use Rattle.joiner.specs.Book.{Book, begun, turned}
use Rattle.joiner.specs.Statement.{Event, Labelling, Fair, Agrees}
use Rattle.extended.specs.Extended.{LongEvent, base, added, base_calls}
use Rattle.cell_calls.specs.Cells.{CellLists, cell_count, cell_at}
use Rattle.cell_calls.specs.Calls.{CellCall, request, fill, CellAnswer}
use Rattle.cell_calls.specs.Outcomes.{CellStep}
use Rattle.theory_cells.specs.Book.{cell_book_refusal, brings_map, cell_accepts, cell_book_answer, number_at}

-- ---- one call

-- Block b is needed: some cell of the list is read from it.
abbrev pub Needs : Cutting → CellLists → ℕ → Type 0
Needs k l b = (i : ℕ) × (i < cell_count l) × (lowest_block k (cell_at l i) ≡ b)

-- "The list of blocks .. has each needed block exactly once, ascending": the first n entries of tray u, which was t before the call.
pub record NeededOnce (k : Cutting) (l : CellLists) (n : ℕ) (t u : List ℕ) : Type 0 where
  pub within : n ≤ length u
  -- each of them is needed, and each needed block is one of them
  pub needed : (i : ℕ) → i < n → Needs k l (get_or u i 0)
  pub listed : (b : ℕ) → Needs k l b → (i : ℕ) × (i < n) × (get_or u i 0 ≡ b)
  -- ascending, so none of them stands there twice
  pub ascending : (i j : ℕ) → i < j → j < n → get_or u i 0 < get_or u j 0
  -- the rest of the tray is as it was
  pub long : length u ≡ length t
  pub rest : drop n u ≡ drop n t

-- Of every accepted request, whatever job, tables and tray it found.
abbrev pub RequestExact : Type 0
RequestExact =
    (s : State) (l : CellLists) (t : List ℕ) (a : CellAnswer)
    → CellStep s (request l t) a
    → a.refusal ≡ 0
    → NeededOnce s.job.told.cutting l a.many t a.tray

-- "Fills in the answers read from it, no others": tray u of answers, which was t before the call with block b and its map.
pub record FilledOnly (s : State) (l : CellLists) (b : ℕ) (m t u : List ℕ) : Type 0 where
  pub long : length u ≡ length t
  pub whole : length t ≡ cell_count l
  -- a cell of which b is the lowest-numbered block has the number that a lookup gives, and every other answer is as it was
  pub own : (i : ℕ) → i < cell_count l → lowest_block s.job.told.cutting (cell_at l i) ≡ b → get_or u i 0 ≡ looked_up s b m (cell_at l i)
  pub others : (i : ℕ) → lowest_block s.job.told.cutting (cell_at l i) ≢ b → get_or u i 0 ≡ get_or t i 0

-- Of every accepted filling, whatever it found.
abbrev pub FillingExact : Type 0
FillingExact =
    (s : State) (l : CellLists) (b : ℕ) (m t : List ℕ) (a : CellAnswer)
    → CellStep s (fill l b m t) a
    → a.refusal ≡ 0
    → FilledOnly s l b m t a.tray

-- ---- lists of calls

-- A call of the list: one of statement 3's or of an earlier item, or one about a list of cells, with its answer.
pub data CellEvent (C A W : Type 0) : Type 0 where
  earlier : LongEvent C A W → CellEvent C A W
  about_cells : CellCall → CellAnswer → CellEvent C A W

-- The calls of statement 3 and of the earlier item among them.
unfoldable pub earlier_calls : {C A W : Type 0} → List (CellEvent C A W) → List (LongEvent C A W)
earlier_calls [] = []
earlier_calls (earlier e ∷ es) = e ∷ earlier_calls es
earlier_calls (about_cells c a ∷ es) = earlier_calls es

-- Each call got job and tables "as the call before it, or at first the opening, left them". A call about a list of cells changes none of them.
pub data CellRun {C A W : Type 0} (Step : State → W → C → A → W → Type 0) : State → W → List (CellEvent C A W) → Type 0 where
  none : {s : State} {w : W} → CellRun Step s w []
  next : {s : State} {w : W} {e : Event} {es : List (CellEvent C A W)} → CallStep s e.call e.answer e.after → CellRun Step e.after w es → CellRun Step s w (earlier (base e) ∷ es)
  next_added : {s : State} {w v : W} {c : C} {a : A} {es : List (CellEvent C A W)} → Step s w c a v → CellRun Step s v es → CellRun Step s w (earlier (added c a v) ∷ es)
  next_cells : {s : State} {w : W} {c : CellCall} {a : CellAnswer} {es : List (CellEvent C A W)} → CellStep s c a → CellRun Step s w es → CellRun Step s w (about_cells c a ∷ es)

-- The call brings the map `own b` of its block b.
abbrev pub CellBrings : (ℕ → List ℕ) → CellCall → Type 0
CellBrings own (request l t) = Unit {0}
CellBrings own (fill l b m t) = m ≡ own b

-- "A call with a map other than its block's stands there only if refused": of the calls about lists of cells.
abbrev pub CellFair : {C A W : Type 0} → (ℕ → List ℕ) → List (CellEvent C A W) → Type 0
CellFair own [] = Unit {0}
CellFair own (earlier e ∷ es) = CellFair own es
CellFair own (about_cells c a ∷ es) = (a.refusal ≡ 0 → CellBrings own c) × CellFair own es

-- One of the two calls against the day book.
pub record CellAgrees (own : ℕ → List ℕ) (B : Book) (c : CellCall) (a : CellAnswer) : Type 0 where
  -- with its block's map it is never refused with 8, and gets any other refusal exactly when the book gives it
  pub no_stray : CellBrings own c → a.refusal ≢ 8
  pub brought : CellBrings own c → a.refusal ≡ cell_book_refusal B c
  pub refused : brings_map B c ≡ true → a.refusal ≡ cell_book_refusal B c
  -- with any map, 1 to 6 go by the book, whose numbers are 3, 4 and 6
  pub early : cell_book_refusal B c ≢ 0 → a.refusal ≡ cell_book_refusal B c
  pub early_only : 0 < a.refusal → a.refusal ≤ 6 → a.refusal ≡ cell_book_refusal B c
  -- what is accepted is what the book accepts, and the answers filled in are the uncut volume's
  pub judged : (a.refusal ≡ 0) ↔ (cell_accepts B c ≡ true)
  pub answered : a.refusal ≡ 0 → a ≡ cell_book_answer B c

-- The whole list against the book, which turns by statement 3's calls alone.
pub data CellMeasured {C A W : Type 0} (own : ℕ → List ℕ) : Book → List (CellEvent C A W) → Type 0 where
  none : {B : Book} → CellMeasured own B []
  next : {B : Book} {e : Event} {es : List (CellEvent C A W)} → Agrees own B e → CellMeasured own (turned B e.call) es → CellMeasured own B (earlier (base e) ∷ es)
  next_added : {B : Book} {c : C} {a : A} {w : W} {es : List (CellEvent C A W)} → CellMeasured own B es → CellMeasured own B (earlier (added c a w) ∷ es)
  next_cells : {B : Book} {c : CellCall} {a : CellAnswer} {es : List (CellEvent C A W)} → CellAgrees own B c a → CellMeasured own B es → CellMeasured own B (about_cells c a ∷ es)

-- What statement 3 supposes of such a list, with any calls of an earlier item in it: an accepted opening, calls that each got what the call before it left, and of
-- accepted calls the maps of one labelling of each block.
pub record Supposed {C A W : Type 0} (Step : State → W → C → A → W → Type 0) (o : Told) (own : ℕ → List ℕ) (es : List (CellEvent C A W)) : Type 0 where
  pub lent : Tables
  pub begin : State
  pub beside : W
  pub opened : Opened o lent begin
  pub labelled : (b : ℕ) → b < blocks o.cutting → Labelling (block_extents o.cutting b) (own b)
  pub run : CellRun Step begin beside es
  pub fair : Fair own (base_calls (earlier_calls es))
  pub cells_fair : CellFair own es

-- The list is what the day book says.
abbrev pub CellStatement : Type 1
CellStatement =
    (C A W : Type 0) (Step : State → W → C → A → W → Type 0) (o : Told) (own : ℕ → List ℕ) (es : List (CellEvent C A W))
    → Supposed Step o own es
    → CellMeasured own (begun o) es

-- ---- the answers of a list of cells

-- A tray of answers is handed from one filling with the cells l to the next, among any other calls: it held t at first and holds u at last, and blocks bs filled it.
pub data Handed {C A W : Type 0} (l : CellLists) : List ℕ → List (CellEvent C A W) → List ℕ → List ℕ → Type 0 where
  none : {t : List ℕ} → Handed l t [] [] t
  -- any call; what it is lent is not this tray
  between : {t u bs : List ℕ} {e : CellEvent C A W} {es : List (CellEvent C A W)} → Handed l t es bs u → Handed l t (e ∷ es) bs u
  -- a filling that is lent it, and refused or accepted
  refused : {t u m bs : List ℕ} {b : ℕ} {a : CellAnswer} {es : List (CellEvent C A W)} → a.refusal ≢ 0 → Handed l a.tray es bs u → Handed l t (about_cells (fill l b m t) a ∷ es) bs u
  filled : {t u m bs : List ℕ} {b : ℕ} {a : CellAnswer} {es : List (CellEvent C A W)} → a.refusal ≡ 0 → Handed l a.tray es bs u → Handed l t (about_cells (fill l b m t) a ∷ es) (b ∷ bs) u

-- "The answer is each cell's final number in the order sent": once each needed block has come, in any order and with other calls between, the answers are the
-- numbers of the uncut volume, whatever the tray held at first. A list of no cells needs no block, and nothing is said of its tray.
abbrev pub ListAnswered : Type 1
ListAnswered =
    (C A W : Type 0) (Step : State → W → C → A → W → Type 0) (o : Told) (own : ℕ → List ℕ) (es : List (CellEvent C A W)) (l : CellLists) (t u bs : List ℕ)
    → Supposed Step o own es
    → Handed l t es bs u
    → ((b : ℕ) → Needs o.cutting l b → Memᴰ b bs)
    → (take (cell_count l) u ≡ tabulate (cell_count l) (number_at o.cutting.extents (labels o.cutting.extents (codes_of o.cutting own)) l))
    × (0 < cell_count l → length u ≡ cell_count l)

-- Cutting leaves no trace in the answers: where the blocks are those of one volume with these codes, the answers are its numbers, whatever the cutting is and whatever
-- the order of the blocks.
abbrev pub AnswersUncut : Type 1
AnswersUncut =
    (C A W : Type 0) (Step : State → W → C → A → W → Type 0) (o : Told) (codes : List ℕ) (own : ℕ → List ℕ) (es : List (CellEvent C A W)) (l : CellLists) (t u bs : List ℕ)
    → length codes ≡ volume o.cutting.extents
    → ((b : ℕ) → b < blocks o.cutting → own b ≡ labels (block_extents o.cutting b) (block_codes o.cutting b codes))
    → Supposed Step o own es
    → Handed l t es bs u
    → ((b : ℕ) → Needs o.cutting l b → Memᴰ b bs)
    → take (cell_count l) u ≡ tabulate (cell_count l) (number_at o.cutting.extents (labels o.cutting.extents codes) l)
