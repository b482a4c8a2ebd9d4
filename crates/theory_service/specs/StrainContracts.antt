-- A call of item 1 as the contract of its public entry has it, and lists of calls with them (document 02).
-- Assumes nothing.
use Rattle.std.specs.Prelude.{List, [], ◌∷◌, ℕ, Float}
use Rattle.joiner.specs.Calls.{Call, Answer}
use Rattle.job.specs.declared.Job.{Job}
use Rattle.job.specs.JobState.{job_of}
use Rattle.totals.specs.declared.Totals.{Totals}
use Rattle.extended.specs.Extended.{base, added}
use Rattle.strain_calls.specs.Tables.{TotalTables}
use Rattle.strain_calls.specs.Calls.{StrainCall, strain, total, StrainAnswer, strain_answer, no_totals}
use Rattle.strain_calls.specs.Outcomes.{StrainPromise, TotalPromise}
use Rattle.theory_totals.specs.Statement.{StrainEvent}
use Rattle.theory_service.specs.EntryContracts.{Held, held, state_in, CalledThrough}

-- A call of item 1 with its answer, on what is held and the tables of the readings, to those tables after it: the premise is what the public entry promises,
-- whatever the tables are that it is not lent. What is held stays. (The methods of the crate `methods` have these promises, proved out of the public entries' contracts.)
pub data CalledStrain : Held → TotalTables → StrainCall → StrainAnswer → TotalTables → Type 0 where
  -- `strain`, lent the block table and the final numbers of faces
  strained : {j : Job} {b r : ℕ} {m kinds : List ℕ} {values : List Float} {cx cy cz ticks blocks fl cl fk ck pk fr cr pr fn cn pn ff cf pf fs cs ps : List ℕ} {w v : TotalTables}
      → StrainPromise (job_of j cx cy cz) blocks fn w b m values kinds r v
      → CalledStrain (held j cx cy cz ticks blocks fl cl fk ck pk fr cr pr fn cn pn ff cf pf fs cs ps) w (strain b m values kinds) (strain_answer r no_totals) v
  -- `total`, lent no table of the joiner's, which changes nothing
  totalled : {j : Job} {n r : ℕ} {T : Totals} {cx cy cz ticks blocks fl cl fk ck pk fr cr pr fn cn pn ff cf pf fs cs ps : List ℕ} {w : TotalTables}
      → TotalPromise (job_of j cx cy cz) w n r T
      → CalledStrain (held j cx cy cz ticks blocks fl cl fk ck pk fr cr pr fn cn pn ff cf pf fs cs ps) w (total n) (strain_answer r T) w

-- A list of calls of statement 3 and of item 1, each on what the call before it left. The first are not lent the tables of the readings.
pub data LongCalls : Held → TotalTables → List StrainEvent → Type 0 where
  none : {h : Held} {w : TotalTables} → LongCalls h w []
  next : {h g : Held} {w : TotalTables} {c : Call} {a : Answer} {es : List StrainEvent} → CalledThrough h c a g → LongCalls g w es
      → LongCalls h w (base (record { call = c; answer = a; after = state_in g }) ∷ es)
  next_added : {h : Held} {w v : TotalTables} {c : StrainCall} {a : StrainAnswer} {es : List StrainEvent} → CalledStrain h w c a v → LongCalls h v es
      → LongCalls h w (added c a v ∷ es)
