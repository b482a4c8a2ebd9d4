-- Lists of exported calls.
-- Assumes nothing.
use Rattle.std.specs.Prelude.{cond, List, [], ◌∷◌, ℕ, eqb, take}
use Rattle.joiner.specs.Job.{Kind, width, Tables, State}
use Rattle.joiner.specs.Calls.{Call, reading, Answer, answer}
use Rattle.joiner.specs.Statement.{Event}
use Rattle.job.specs.declared.Stage.{Stage}
use Rattle.job.specs.JobState.{state_of}
use Rattle.job_numbers.specs.Numbers.{job_in}
use Rattle.exports.specs.Exports.{ExportedStep, ExportedLookup, ExportedRow}

-- What a caller keeps from call to call: the thirteen numbers, the three cut lists, the nineteen tables.
pub data Kept : Type 0 where
  keeps : (numbers cx cy cz : List ℕ) → Tables → Kept

-- The joiner's state that it is. (After an accepted opening the first number is always that of a stage.)
abbrev pub state_kept : Kept → State
state_kept (keeps ns cx cy cz t) = state_of (job_in ns Stage.Enrol) cx cy cz t

-- The answer of a lookup: the number stored, 0 if it is refused.
abbrev pub look_answer : ℕ → ℕ → Answer
look_answer r v = answer r (cond (eqb r 0) v 0) []

-- The answer of a row reading: the first two, four or six places of the row stored, none if it is refused.
abbrev pub row_answer : Kind → ℕ → List ℕ → Answer
row_answer κ r row = answer r 0 (cond (eqb r 0) (take (width κ) row) [])

-- An exported call with its answer, from what is kept before to what is kept after: the premise is the `ensures` of the export, at the tables
-- that the caller keeps.
pub data ExportedCall : Kept → Call → Answer → Kept → Type 0 where
  -- `tugrelis_enrol`, `tugrelis_seam`, `tugrelis_crossing`, `tugrelis_point`
  stepped : {ns ns' cx cy cz : List ℕ} {other : Stage} {t t' : Tables} {c : Call} {r : ℕ}
      → ExportedStep ns ns' other cx cy cz t t' c r
      → ExportedCall (keeps ns cx cy cz t) c (answer r 0 []) (keeps ns' cx cy cz t')
  -- `tugrelis_lookup`
  looked : {ns cx cy cz : List ℕ} {other : Stage} {t : Tables} {c : Call} {r v v' : ℕ}
      → ExportedLookup ns other cx cy cz t c r v v'
      → ExportedCall (keeps ns cx cy cz t) c (look_answer r v') (keeps ns cx cy cz t)
  -- `tugrelis_face_row`, `tugrelis_curve_row`, `tugrelis_point_row`
  read : {ns cx cy cz : List ℕ} (other : Stage) {t : Tables} {κ : Kind} {n r : ℕ} {row row' : List ℕ}
      → ExportedRow (job_in ns other) cx cy cz t κ n r row row'
      → ExportedCall (keeps ns cx cy cz t) (reading κ n) (row_answer κ r row') (keeps ns cx cy cz t)

-- A list of exported calls, each on what the call before it left.
pub data ExportedCalls : Kept → List Event → Type 0 where
  none : {k : Kept} → ExportedCalls k []
  next : {k l : Kept} {c : Call} {a : Answer} {es : List Event} → ExportedCall k c a l → ExportedCalls l es
      → ExportedCalls k (record { call = c; answer = a; after = state_kept l } ∷ es)
