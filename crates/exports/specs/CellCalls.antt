-- What the exports of item 12 leave, and lists of exported calls with them (document 02).
-- Assumes nothing.
use Rattle.std.specs.Prelude.{◌≡◌, cond, List, [], ◌∷◌, ℕ, eqb}
use Rattle.joiner.specs.Job.{Tables}
use Rattle.joiner.specs.Calls.{Call, Answer}
use Rattle.job.specs.declared.Stage.{Stage}
use Rattle.job.specs.JobState.{state_of}
use Rattle.job_numbers.specs.Numbers.{job_in}
use Rattle.extended.specs.Extended.{base, added}
use Rattle.strain_calls.specs.Tables.{TotalTables}
use Rattle.strain_calls.specs.Calls.{StrainCall, StrainAnswer}
use Rattle.cell_calls.specs.Cells.{CellLists}
use Rattle.cell_calls.specs.Calls.{CellCall, request, fill, CellAnswer, cell_answer}
use Rattle.cell_calls.specs.Outcomes.{CellStep}
use Rattle.theory_cells.specs.Statement.{CellEvent, earlier, about_cells}
use Rattle.exports.specs.Calls.{Kept, keeps, state_kept, ExportedCall}
use Rattle.exports.specs.StrainCalls.{ExportedStrainCall}

-- Of a request: `CellStep`, for the job that the numbers tell; how many blocks are needed is stored if it is accepted, and the place stays if it is refused.
pub record ExportedRequest (ns : List ℕ) (other : Stage) (cx cy cz : List ℕ) (t : Tables) (l : CellLists) (w w' : List ℕ) (r n n' : ℕ) : Type 0 where
  pub found : ℕ
  pub step : CellStep (state_of (job_in ns other) cx cy cz t) (request l w) (cell_answer r found w')
  pub number : n' ≡ cond (eqb r 0) found n

-- Of a filling: `CellStep`, for the job that the numbers tell.
abbrev pub ExportedFill : List ℕ → Stage → (cx cy cz : List ℕ) → Tables → CellLists → ℕ → List ℕ → List ℕ → ℕ → List ℕ → Type 0
ExportedFill ns other cx cy cz t l b m w r w' = CellStep (state_of (job_in ns other) cx cy cz t) (fill l b m w) (cell_answer r 0 w')

-- The answer of a request: the number stored, 0 if it is refused, and the tray.
abbrev pub request_answer : ℕ → ℕ → List ℕ → CellAnswer
request_answer r n w = cell_answer r (cond (eqb r 0) n 0) w

-- An exported call of item 12 with its answer, on what is kept, which stays: the premise is the `ensures` of the export, at the tables that the caller keeps.
pub data ExportedCellCall : Kept → CellCall → CellAnswer → Type 0 where
  -- `tugrelis_request_blocks`
  requested : {ns cx cy cz w w' : List ℕ} {other : Stage} {t : Tables} {l : CellLists} {r n n' : ℕ}
      → ExportedRequest ns other cx cy cz t l w w' r n n'
      → ExportedCellCall (keeps ns cx cy cz t) (request l w) (request_answer r n' w')
  -- `tugrelis_fill_cells`
  filled : {ns cx cy cz m w w' : List ℕ} (other : Stage) {t : Tables} {l : CellLists} {b r : ℕ}
      → ExportedFill ns other cx cy cz t l b m w r w'
      → ExportedCellCall (keeps ns cx cy cz t) (fill l b m w) (cell_answer r 0 w')

-- A list of exported calls of statement 3, of item 1 and of item 12, each on what the call before it left.
pub data ServiceExported : Kept → TotalTables → List (CellEvent StrainCall StrainAnswer TotalTables) → Type 0 where
  none : {k : Kept} {w : TotalTables} → ServiceExported k w []
  next : {k l : Kept} {w : TotalTables} {c : Call} {a : Answer} {es : List (CellEvent StrainCall StrainAnswer TotalTables)} → ExportedCall k c a l → ServiceExported l w es
      → ServiceExported k w (earlier (base (record { call = c; answer = a; after = state_kept l })) ∷ es)
  next_added : {k : Kept} {w v : TotalTables} {c : StrainCall} {a : StrainAnswer} {es : List (CellEvent StrainCall StrainAnswer TotalTables)} → ExportedStrainCall k w c a v
      → ServiceExported k v es → ServiceExported k w (earlier (added c a v) ∷ es)
  next_cells : {k : Kept} {w : TotalTables} {c : CellCall} {a : CellAnswer} {es : List (CellEvent StrainCall StrainAnswer TotalTables)} → ExportedCellCall k c a → ServiceExported k w es
      → ServiceExported k w (about_cells c a ∷ es)
