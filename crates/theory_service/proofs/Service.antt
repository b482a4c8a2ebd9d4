-- Statement 3 holds of the public entries: for every opening through `open` that is accepted, and every list of calls through the other public entries. Start here.
-- Assumes nothing.
use mathlib.Core.List.{List}
use mathlib.Core.Path.{sym}
use Prim.Native.Nat.{ℕ, ◌<◌}
use Rattle.cutting.specs.Cutting.{blocks, block_extents}
use Rattle.joiner.specs.Job.{Told, Tables}
use Rattle.joiner.specs.Calls.{Call, Answer, enrol, join, cross, point, look, reading}
use Rattle.joiner.specs.Outcomes.{CallStep}
use Rattle.joiner.specs.Book.{begun}
use Rattle.joiner.specs.Statement.{Event, Run, Fair, Labelling, Measured}
use Rattle.joiner.proofs.Statement3.{statement3}
use Rattle.strain_calls.specs.Tables.{TotalTables}
use Rattle.strain_calls.specs.Outcomes.{TotalsOpening}
use Rattle.job.specs.Lent.{no_tables}
use Rattle.theory_frames.proofs.FrameLaws.{framed}
use Rattle.theory_service.specs.EntryContracts.{Held, state_in, CalledThrough, enrolled, joined, crossed, pointed, looked, read, OpenedBy, opened, Calls, none, next}

-- An opening through `open` is one of the joiner, with the tables of the readings.
pub opened_opening : {o : Told} {lent : Tables} {w v : TotalTables} {r : ℕ} {h : Held} → OpenedBy o lent w r h v → TotalsOpening o lent w r (state_in h) v
opened_opening (opened O) = O

-- A call through a public entry is a step of the joiner, of all nineteen tables.
pub called_step : {h g : Held} {c : Call} {a : Answer} → CalledThrough h c a g → CallStep (state_in h) c a (state_in g)
called_step {h = h} {g = g} (enrolled S) = framed no_tables (state_in h).tables (state_in h) (state_in g) (enrol _ _) _ S
called_step {h = h} {g = g} (joined S) = framed no_tables (state_in h).tables (state_in h) (state_in g) (join _ _ _ _) _ S
called_step {h = h} {g = g} (crossed S) = framed no_tables (state_in h).tables (state_in h) (state_in g) (cross _ _) _ S
called_step {h = h} {g = g} (pointed S) = framed no_tables (state_in h).tables (state_in h) (state_in g) (point _ _) _ S
called_step {h = h} {g = g} (looked S) = framed no_tables (state_in h).tables (state_in h) (state_in g) (look _ _ _) _ S
called_step {h = h} {g = g} (read {cx = cx} {cy = cy} {cz = cz} S) = framed no_tables (state_in h).tables (state_in h) (state_in g) (reading _ _) _ (S cx cy cz)

calls_run : {h : Held} {es : List Event} → Calls h es → Run (state_in h) es
calls_run none = Run.none
calls_run (next C L) = Run.next (called_step C) (calls_run L)

-- Statement 3 for the public entries.
pub service3 : (o : Told) (lent : Tables) (w v : TotalTables) (h : Held) (own : ℕ → List ℕ) (es : List Event)
    → OpenedBy o lent w 0 h v
    → ((b : ℕ) → b < blocks o.cutting → Labelling (block_extents o.cutting b) (own b))
    → Calls h es
    → Fair own es
    → Measured own (begun o) es
service3 o lent w v h own es by labelled calls fair =
    let O = opened_opening by in
    statement3 o lent (state_in h) own es (O.opened (sym O.told)).opened labelled (calls_run calls) fair
