-- What a caller of the public entries holds, and a call as the contract of its public entry has it. A table that the public entry is not lent is [] in the
-- contract, and the caller's stays as it is.
-- Assumes nothing.
use Rattle.std.specs.Prelude.{List, [], ◌∷◌, ℕ}
use Rattle.cells.specs.declared.Triple.{Triple}
use Rattle.joiner.specs.Job.{Kind, Told, Tables, State}
use Rattle.joiner.specs.Calls.{Call, enrol, join, cross, point, look, reading, Answer, answer}
use Rattle.joiner.specs.Outcomes.{CallStep}
use Rattle.joiner.specs.Statement.{Event}
use Rattle.job.specs.declared.Job.{Job}
use Rattle.job.specs.JobState.{told_by, tables_of, state_of, AnyCuts}
use Rattle.job.specs.Lent.{no_tables, cross_lent, enrol_lent, look_lent, point_lent, row_lent, seam_lent}
use Rattle.strain_calls.specs.Tables.{TotalTables}
use Rattle.strain_calls.specs.Outcomes.{TotalsOpening}

-- The job as the code has it, the three cut lists and the nineteen tables: ticks, blocks, and by two letters the tables of faces (f), curves (c)
-- and points (p), their links (l), keys (k), rows (r), numbers (n), first positions (f) and the closed tables of rows (s).
pub data Held : Type 0 where
  held : (job : Job) (cx cy cz ticks blocks fl cl fk ck pk fr cr pr fn cn pn ff cf pf fs cs ps : List ℕ) → Held

-- The joiner's state that it is.
abbrev pub state_in : Held → State
state_in (held j cx cy cz ticks blocks fl cl fk ck pk fr cr pr fn cn pn ff cf pf fs cs ps) =
    state_of j cx cy cz (tables_of ticks blocks fl cl fk ck pk fr cr pr fn cn pn ff cf pf fs cs ps)

-- An opening through `open`, with what it is told, lent and answers: the premise is its `ensures`. Of the tables it stores into the ticks and
-- into those of the readings.
pub data OpenedBy : Told → Tables → TotalTables → ℕ → Held → TotalTables → Type 0 where
  opened : {j : Job} {nx ny nz faces curves points r : ℕ} {cx cy cz ticks blocks fl cl fk ck pk fr cr pr fn cn pn ff cf pf fs cs ps ticks' : List ℕ} {w v : TotalTables}
      → TotalsOpening (told_by nx ny nz cx cy cz faces curves points) (tables_of ticks blocks fl cl fk ck pk fr cr pr fn cn pn ff cf pf fs cs ps) w r
      (state_of j cx cy cz (tables_of ticks' blocks fl cl fk ck pk fr cr pr fn cn pn ff cf pf fs cs ps)) v
      → OpenedBy (told_by nx ny nz cx cy cz faces curves points) (tables_of ticks blocks fl cl fk ck pk fr cr pr fn cn pn ff cf pf fs cs ps) w r
      (held j cx cy cz ticks' blocks fl cl fk ck pk fr cr pr fn cn pn ff cf pf fs cs ps) v

-- A call through a public entry, with its answer, from what is held before to what is held after: the premise is the public entry's `ensures`. (The crate `methods`
-- proves each method out of its public entry's contract by these constructors.)
pub data CalledThrough : Held → Call → Answer → Held → Type 0 where
  -- `enrol`
  enrolled : {j j' : Job} {b r : ℕ} {m : List ℕ} {cx cy cz ticks blocks fl cl fk ck pk fr cr pr fn cn pn ff cf pf fs cs ps
      ticks' blocks' fl' cl' fk' ck' fr' cr' : List ℕ}
      → CallStep (state_of j cx cy cz (enrol_lent no_tables ticks blocks fl cl fk ck fr cr))
      (enrol b m) (answer r 0 [])
      (state_of j' cx cy cz (enrol_lent no_tables ticks' blocks' fl' cl' fk' ck' fr' cr'))
      → CalledThrough (held j cx cy cz ticks blocks fl cl fk ck pk fr cr pr fn cn pn ff cf pf fs cs ps) (enrol b m) (answer r 0 [])
      (held j' cx cy cz ticks' blocks' fl' cl' fk' ck' pk fr' cr' pr fn cn pn ff cf pf fs cs ps)
  -- `seam`
  joined : {j j' : Job} {b c r : ℕ} {m n : List ℕ} {cx cy cz ticks blocks fl cl fk ck pk fr cr pr fn cn pn ff cf pf fs cs ps
      ticks' fl' cl' : List ℕ}
      → CallStep (state_of j cx cy cz (seam_lent no_tables ticks blocks fl cl))
      (join b c m n) (answer r 0 [])
      (state_of j' cx cy cz (seam_lent no_tables ticks' blocks fl' cl'))
      → CalledThrough (held j cx cy cz ticks blocks fl cl fk ck pk fr cr pr fn cn pn ff cf pf fs cs ps) (join b c m n) (answer r 0 [])
      (held j' cx cy cz ticks' blocks fl' cl' fk ck pk fr cr pr fn cn pn ff cf pf fs cs ps)
  -- `crossing`
  crossed : {j j' : Job} {b r : ℕ} {m : List ℕ} {cx cy cz ticks blocks fl cl fk ck pk fr cr pr fn cn pn ff cf pf fs cs ps
      ticks' fl' cl' fn' cn' ff' cf' fs' cs' : List ℕ}
      → CallStep (state_of j cx cy cz (cross_lent no_tables ticks blocks fl cl fk ck fr cr fn cn ff cf fs cs))
      (cross b m) (answer r 0 [])
      (state_of j' cx cy cz (cross_lent no_tables ticks' blocks fl' cl' fk ck fr cr fn' cn' ff' cf' fs' cs'))
      → CalledThrough (held j cx cy cz ticks blocks fl cl fk ck pk fr cr pr fn cn pn ff cf pf fs cs ps) (cross b m) (answer r 0 [])
      (held j' cx cy cz ticks' blocks fl' cl' fk ck pk fr cr pr fn' cn' pn ff' cf' pf fs' cs' ps)
  -- `point`
  pointed : {j j' : Job} {b r : ℕ} {m : List ℕ} {cx cy cz ticks blocks fl cl fk ck pk fr cr pr fn cn pn ff cf pf fs cs ps
      ticks' pk' pr' pn' pf' ps' : List ℕ}
      → CallStep (state_of j cx cy cz (point_lent no_tables ticks blocks pk pr cn pn pf ps))
      (point b m) (answer r 0 [])
      (state_of j' cx cy cz (point_lent no_tables ticks' blocks pk' pr' cn pn' pf' ps'))
      → CalledThrough (held j cx cy cz ticks blocks fl cl fk ck pk fr cr pr fn cn pn ff cf pf fs cs ps) (point b m) (answer r 0 [])
      (held j' cx cy cz ticks' blocks fl cl fk ck pk' fr cr pr' fn cn pn' ff cf pf' fs cs ps')
  -- `lookup`, which changes nothing
  looked : {j : Job} {b r v : ℕ} {m : List ℕ} {c : Triple} {cx cy cz ticks blocks fl cl fk ck pk fr cr pr fn cn pn ff cf pf fs cs ps : List ℕ}
      → CallStep (state_of j cx cy cz (look_lent no_tables ticks blocks fn cn pf))
      (look b m c) (answer r v [])
      (state_of j cx cy cz (look_lent no_tables ticks blocks fn cn pf))
      → CalledThrough (held j cx cy cz ticks blocks fl cl fk ck pk fr cr pr fn cn pn ff cf pf fs cs ps) (look b m c) (answer r v [])
      (held j cx cy cz ticks blocks fl cl fk ck pk fr cr pr fn cn pn ff cf pf fs cs ps)
  -- `row`, which changes nothing either, and is not lent the cut lists
  read : {j : Job} {κ : Kind} {n r : ℕ} {p : List ℕ} {cx cy cz ticks blocks fl cl fk ck pk fr cr pr fn cn pn ff cf pf fs cs ps : List ℕ}
      → AnyCuts (λ cx' cy' cz'. CallStep (state_of j cx' cy' cz' (row_lent no_tables fs cs ps))
      (reading κ n) (answer r 0 p)
      (state_of j cx' cy' cz' (row_lent no_tables fs cs ps)))
      → CalledThrough (held j cx cy cz ticks blocks fl cl fk ck pk fr cr pr fn cn pn ff cf pf fs cs ps) (reading κ n) (answer r 0 p)
      (held j cx cy cz ticks blocks fl cl fk ck pk fr cr pr fn cn pn ff cf pf fs cs ps)

-- A list of calls, each on what the call before it left.
pub data Calls : Held → List Event → Type 0 where
  none : {h : Held} → Calls h []
  next : {h g : Held} {c : Call} {a : Answer} {es : List Event} → CalledThrough h c a g → Calls g es → Calls h (record { call = c; answer = a; after = state_in g } ∷ es)
