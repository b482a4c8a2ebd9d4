-- Lists of calls through the public entries, those of item 1 among them: the whole list is what the day book and the book of readings say.
-- Assumes nothing.
use mathlib.Core.List.{List, Memᴰ}
use mathlib.Core.Path.{refl, sym}
use Prim.Native.Nat.{ℕ, ◌<◌}
use Rattle.cutting.specs.Cutting.{blocks, block_extents}
use Rattle.joiner.specs.Job.{Told, Tables}
use Rattle.joiner.specs.Book.{begun}
use Rattle.joiner.specs.Statement.{Labelling}
use lib.Ieee.{Float}
use Rattle.totals.specs.declared.Totals.{Totals}
use Rattle.extended.specs.Extended.{LongRun, added}
use Rattle.strain_calls.specs.Tables.{TotalTables}
use Rattle.strain_calls.specs.Calls.{StrainCall, total, StrainAnswer, strain_answer}
use Rattle.strain_calls.specs.Outcomes.{StrainStep}
use Rattle.theory_totals.specs.Book.{no_readings}
use Rattle.theory_totals.specs.Statement.{StrainEvent, LongFair, StrainMeasured, BringsLists, TotalRead}
use Rattle.theory_totals.proofs.StrainStatement.{strain_statement}
use Rattle.theory_service.specs.EntryContracts.{Held, state_in, OpenedBy}
use Rattle.theory_service.specs.StrainContracts.{CalledStrain, strained, totalled, LongCalls, none, next, next_added}
use Rattle.theory_service.proofs.Service.{opened_opening, called_step}

-- A call of item 1 through its public entry is a step of the readings.
pub called_strain : {h : Held} {w v : TotalTables} {c : StrainCall} {a : StrainAnswer} → CalledStrain h w c a v → StrainStep (state_in h) w c a v
called_strain {h = h} (strained S) = S (state_in h).tables refl refl
called_strain {h = h} (totalled S) = S (state_in h).tables

-- A list of calls through the public entries is a run.
pub long_run : {h : Held} {w : TotalTables} {es : List StrainEvent} → LongCalls h w es → LongRun StrainStep (state_in h) w es
long_run none = LongRun.none
long_run (next C L) = LongRun.next (called_step C) (long_run L)
long_run (next_added C L) = LongRun.next_added (called_strain C) (long_run L)

-- Totals that are read in such a list are totals that are read: `sums_exact`, `totals_exact`, `totals_whole`, `outside_free`, `order_free` and `cutting_free` (theory_totals) hold of them.
pub called_read : (o : Told) (lent : Tables) (w v : TotalTables) (h : Held) (own : ℕ → List ℕ) (es : List StrainEvent) (values : ℕ → List Float) (kinds : ℕ → List ℕ) (n : ℕ) (T : Totals) (u : TotalTables)
    → OpenedBy o lent w 0 h v
    → ((b : ℕ) → b < blocks o.cutting → Labelling (block_extents o.cutting b) (own b))
    → LongCalls h v es
    → LongFair own es
    → BringsLists values kinds es
    → Memᴰ (added (total n) (strain_answer 0 T) u) es
    → TotalRead o own values kinds n T
called_read o lent w v h own es values kinds n T u by labelled calls fair lists read =
    let O = opened_opening by in
    record { lent = lent; before = w; after = v; begin = state_in h; calls = es; opened = O.opened (sym O.told); labelled = labelled; run = long_run calls; fair = fair; lists = lists; left = u; read = read }

-- Statement 3's calls and item 1's, for the public entries: every opening through `open` that is accepted, every list of calls through the other public entries.
pub service_totals : (o : Told) (lent : Tables) (w v : TotalTables) (h : Held) (own : ℕ → List ℕ) (es : List StrainEvent)
    → OpenedBy o lent w 0 h v
    → ((b : ℕ) → b < blocks o.cutting → Labelling (block_extents o.cutting b) (own b))
    → LongCalls h v es
    → LongFair own es
    → StrainMeasured own (begun o) no_readings es
service_totals o lent w v h own es by labelled calls fair =
    let O = opened_opening by in
    strain_statement o lent w v (state_in h) own es (O.opened (sym O.told)) labelled (long_run calls) fair
