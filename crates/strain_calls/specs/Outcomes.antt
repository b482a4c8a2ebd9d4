-- What the opening, the readings' step and the reading of a total answer and leave, for all inputs (document 02, item 1): equations of whole tables.
-- Assumes nothing.
use Rattle.std.specs.Prelude.{◌≡◌, ◌≢◌, List, ℕ, set, Float}
use Rattle.joiner.specs.Job.{Face, Told, Job, Tables, State}
use Rattle.joiner.specs.Outcomes.{Opened, Unopened}
use Rattle.totals.specs.Totals.{sums_with, counts_with, totals_of}
use Rattle.totals.specs.declared.Totals.{Totals}
use Rattle.strain_calls.specs.Tables.{TotalTables, total_tables, zeroed}
use Rattle.strain_calls.specs.Adding.{block_adds}
use Rattle.strain_calls.specs.Calls.{StrainCall, strain, total, StrainAnswer, strain_answer, no_totals}
use Rattle.strain_calls.specs.Declines.{opening_refusal, strain_refusal}

-- ---- opening

-- An accepted opening: the joiner's, and the totals zeroed.
pub record OpenedTotals (o : Told) (lent : Tables) (w : TotalTables) (s : State) (v : TotalTables) : Type 0 where
  pub accepted : opening_refusal o lent w ≡ 0
  pub opened : Opened o lent s
  pub totals : v ≡ zeroed w

-- An opening, whatever it is handed: its answer and what it leaves.
pub record TotalsOpening (o : Told) (lent : Tables) (w : TotalTables) (r : ℕ) (s : State) (v : TotalTables) : Type 0 where
  pub told : r ≡ opening_refusal o lent w
  pub declined : opening_refusal o lent w ≢ 0 → Unopened o lent s × (v ≡ w)
  pub opened : opening_refusal o lent w ≡ 0 → OpenedTotals o lent w s v

-- ---- the readings' step

-- The tables after the readings of block b: sums are added to in cell order, and the block's readings have come.
unfoldable pub with_readings : State → TotalTables → ℕ → List ℕ → List Float → List ℕ → TotalTables
with_readings s w b m values kinds =
    total_tables (set w.came b 1) (sums_with w.sums (block_adds s b m values kinds)) (counts_with w.counts (block_adds s b m values kinds))

-- ---- one call

-- What an accepted call answers and leaves.
abbrev pub StrainDone : State → TotalTables → StrainCall → StrainAnswer → TotalTables → Type 0
StrainDone s w (strain b m values kinds) a v = (a ≡ strain_answer 0 no_totals) × (v ≡ with_readings s w b m values kinds)
StrainDone s w (total n) a v = (a ≡ strain_answer 0 (totals_of w.sums w.counts n)) × (v ≡ w)

-- One call, whatever it is handed: "a refusal returns its number, .. every other field 0 or empty, and changes no lent slice". Neither call changes the job
-- or another table.
pub record StrainStep (s : State) (w : TotalTables) (c : StrainCall) (a : StrainAnswer) (v : TotalTables) : Type 0 where
  pub told : a.refusal ≡ strain_refusal s w c
  pub declined : strain_refusal s w c ≢ 0 → (a ≡ strain_answer (strain_refusal s w c) no_totals) × (v ≡ w)
  pub accepted : strain_refusal s w c ≡ 0 → StrainDone s w c a v

-- What holds whatever the other tables are: the readings' step is lent the block table and the final numbers of faces, a total no table of the joiner's.
abbrev pub AnyTablesWith : List ℕ → List ℕ → (Tables → Type 0) → Type 0
AnyTablesWith blocks numbers P = (t : Tables) → t.blocks ≡ blocks → t.numbers Face ≡ numbers → P t

-- What the readings' step promises, for a job, the two tables that it is lent, the tables of the readings before and after, and what it brings and answers.
abbrev pub StrainPromise : Job → List ℕ → List ℕ → TotalTables → ℕ → List ℕ → List Float → List ℕ → ℕ → TotalTables → Type 0
StrainPromise j blocks numbers w b m values kinds r v =
    AnyTablesWith blocks numbers (λ t. StrainStep (record { job = j; tables = t }) w (strain b m values kinds) (strain_answer r no_totals) v)

-- .. and the reading of a total.
abbrev pub TotalPromise : Job → TotalTables → ℕ → ℕ → Totals → Type 0
TotalPromise j w n r T = (t : Tables) → StrainStep (record { job = j; tables = t }) w (total n) (strain_answer r T) w
