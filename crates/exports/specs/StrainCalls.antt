-- Lists of exported calls with those of item 1 (document 02).
-- Assumes nothing.
use Rattle.std.specs.Prelude.{cond, List, [], ◌∷◌, ℕ, eqb, get_or, Float}
use Rattle.joiner.specs.Job.{Face, Tables}
use Rattle.joiner.specs.Calls.{Call, Answer}
use Rattle.job.specs.declared.Stage.{Stage}
use Rattle.strains.specs.Units.{plus_zero}
use Rattle.totals.specs.declared.Totals.{Totals}
use Rattle.extended.specs.Extended.{base, added}
use Rattle.strain_calls.specs.Tables.{TotalTables}
use Rattle.strain_calls.specs.Calls.{StrainCall, strain, total, StrainAnswer, strain_answer, no_totals}
use Rattle.theory_totals.specs.Statement.{StrainEvent}
use Rattle.exports.specs.Exports.{ExportedStrain, ExportedTotal}
use Rattle.exports.specs.Calls.{Kept, keeps, state_kept, ExportedCall}

-- The totals at the two places of sums and the six of counts.
abbrev pub totals_in : List Float → List ℕ → Totals
totals_in sums counts =
    record {
      lower = record { sum = get_or sums 0 plus_zero; strains = get_or counts 0 0; clipped = get_or counts 1 0; missing = get_or counts 2 0 };
      higher = record { sum = get_or sums 1 plus_zero; strains = get_or counts 3 0; clipped = get_or counts 4 0; missing = get_or counts 5 0 };
    }

-- The answer of a total: what is stored at the places, 0 if it is refused.
abbrev pub total_answer : ℕ → List Float → List ℕ → StrainAnswer
total_answer r sums counts = strain_answer r (cond (eqb r 0) (totals_in sums counts) no_totals)

-- An exported call of item 1 with its answer, on what is kept and the tables of the readings, to those tables after it: the premise is the `ensures` of the
-- export. What is kept stays.
pub data ExportedStrainCall : Kept → TotalTables → StrainCall → StrainAnswer → TotalTables → Type 0 where
  -- `tugrelis_strain`
  strained : {ns cx cy cz m kinds : List ℕ} (other : Stage) {t : Tables} {w v : TotalTables} {b r : ℕ} {values : List Float}
      → ExportedStrain ns other cx cy cz t.blocks (t.numbers Face) w b m values kinds r v
      → ExportedStrainCall (keeps ns cx cy cz t) w (strain b m values kinds) (strain_answer r no_totals) v
  -- `tugrelis_total`
  totalled : {ns cx cy cz : List ℕ} {other : Stage} {t : Tables} {w : TotalTables} {n r : ℕ} {sums sums' : List Float} {counts counts' : List ℕ}
      → ExportedTotal ns other cx cy cz w n r sums sums' counts counts'
      → ExportedStrainCall (keeps ns cx cy cz t) w (total n) (total_answer r sums' counts') w

-- A list of exported calls of statement 3 and of item 1, each on what the call before it left.
pub data LongExported : Kept → TotalTables → List StrainEvent → Type 0 where
  none : {k : Kept} {w : TotalTables} → LongExported k w []
  next : {k l : Kept} {w : TotalTables} {c : Call} {a : Answer} {es : List StrainEvent} → ExportedCall k c a l → LongExported l w es
      → LongExported k w (base (record { call = c; answer = a; after = state_kept l }) ∷ es)
  next_added : {k : Kept} {w v : TotalTables} {c : StrainCall} {a : StrainAnswer} {es : List StrainEvent} → ExportedStrainCall k w c a v → LongExported k v es
      → LongExported k w (added c a v ∷ es)
