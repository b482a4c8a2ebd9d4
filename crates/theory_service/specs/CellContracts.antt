-- A call of item 12 as the contract of its public entry has it, and lists of calls with them (document 02).
-- Assumes nothing.
use Rattle.std.specs.Prelude.{List, [], ◌∷◌, ℕ}
use Rattle.joiner.specs.Calls.{Call, Answer}
use Rattle.job.specs.declared.Job.{Job}
use Rattle.job.specs.JobState.{state_of, AnyTables}
use Rattle.job.specs.Lent.{look_lent}
use Rattle.extended.specs.Extended.{base, added}
use Rattle.strain_calls.specs.Tables.{TotalTables}
use Rattle.strain_calls.specs.Calls.{StrainCall, StrainAnswer}
use Rattle.cell_calls.specs.Cells.{CellLists}
use Rattle.cell_calls.specs.Calls.{CellCall, request, fill, CellAnswer}
use Rattle.cell_calls.specs.Outcomes.{CellStep}
use Rattle.theory_cells.specs.Statement.{CellEvent, earlier, about_cells}
use Rattle.theory_service.specs.EntryContracts.{Held, held, state_in, CalledThrough}
use Rattle.theory_service.specs.StrainContracts.{CalledStrain}

-- A call of item 12 with its answer, on what is held, which stays: the premise is the `ensures` of the public entry, whatever the tables are that it is not lent.
pub data CalledCells : Held → CellCall → CellAnswer → Type 0 where
  -- `request_blocks`, lent no table of the job
  requested : {j : Job} {l : CellLists} {w : List ℕ} {a : CellAnswer} {cx cy cz ticks blocks fl cl fk ck pk fr cr pr fn cn pn ff cf pf fs cs ps : List ℕ}
      → AnyTables (λ t. CellStep (state_of j cx cy cz t) (request l w) a)
      → CalledCells (held j cx cy cz ticks blocks fl cl fk ck pk fr cr pr fn cn pn ff cf pf fs cs ps) (request l w) a
  -- `fill_cells`, lent what `lookup` is lent
  filled : {j : Job} {l : CellLists} {b : ℕ} {m w : List ℕ} {a : CellAnswer} {cx cy cz ticks blocks fl cl fk ck pk fr cr pr fn cn pn ff cf pf fs cs ps : List ℕ}
      → AnyTables (λ t. CellStep (state_of j cx cy cz (look_lent t ticks blocks fn cn pf)) (fill l b m w) a)
      → CalledCells (held j cx cy cz ticks blocks fl cl fk ck pk fr cr pr fn cn pn ff cf pf fs cs ps) (fill l b m w) a

-- A call of statement 3's, of item 1's or of item 12's.
abbrev pub ServiceEvent : Type 0
ServiceEvent = CellEvent StrainCall StrainAnswer TotalTables

-- A list of such calls, each on what the call before it left.
pub data ServiceCalls : Held → TotalTables → List ServiceEvent → Type 0 where
  none : {h : Held} {w : TotalTables} → ServiceCalls h w []
  next : {h g : Held} {w : TotalTables} {c : Call} {a : Answer} {es : List ServiceEvent} → CalledThrough h c a g → ServiceCalls g w es
      → ServiceCalls h w (earlier (base (record { call = c; answer = a; after = state_in g })) ∷ es)
  next_added : {h : Held} {w v : TotalTables} {c : StrainCall} {a : StrainAnswer} {es : List ServiceEvent} → CalledStrain h w c a v → ServiceCalls h v es
      → ServiceCalls h w (earlier (added c a v) ∷ es)
  next_cells : {h : Held} {w : TotalTables} {c : CellCall} {a : CellAnswer} {es : List ServiceEvent} → CalledCells h c a → ServiceCalls h w es
      → ServiceCalls h w (about_cells c a ∷ es)
