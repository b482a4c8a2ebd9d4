-- Lists of exported calls, those of item 1 among them: the whole list is what the day book and the book of readings say.
-- Assumes nothing.
use mathlib.Core.List.{List, Memᴰ}
use mathlib.Core.Path.{◌≡◌, ◌∙◌, ap, ap₂, refl, subst, sym}
use Prim.Native.Nat.{ℕ, zero, suc, ◌<◌}
use lib.Ieee.{Float}
use borrow.Author.Tests.{ne_eqb}
use Rattle.cutting.specs.Cutting.{blocks, block_extents}
use Rattle.joiner.specs.Job.{Told, Tables}
use Rattle.joiner.specs.Book.{begun}
use Rattle.joiner.specs.Statement.{Labelling}
use Rattle.job.specs.declared.Job.{Job}
use Rattle.job.specs.declared.Stage.{Stage}
use Rattle.job.specs.JobState.{state_of}
use Rattle.totals.specs.declared.Totals.{Totals}
use Rattle.extended.specs.Extended.{LongRun, added}
use Rattle.strain_calls.specs.Tables.{TotalTables}
use Rattle.strain_calls.specs.Calls.{StrainCall, total, StrainAnswer, strain_answer, no_totals}
use Rattle.strain_calls.specs.Outcomes.{StrainStep}
use Rattle.theory_totals.specs.Book.{no_readings}
use Rattle.theory_totals.specs.Statement.{StrainEvent, LongFair, StrainMeasured, BringsLists, TotalRead}
use Rattle.theory_totals.proofs.StrainStatement.{strain_statement}
use Rattle.job_numbers.specs.Numbers.{job_in}
use Rattle.exports.specs.Exports.{ExportedOpening, ExportedTotal}
use Rattle.exports.specs.Calls.{Kept, keeps, state_kept}
use Rattle.exports.specs.StrainCalls.{totals_in, total_answer, ExportedStrainCall, strained, totalled, LongExported, none, next, next_added}
use Rattle.exports.proofs.Exported.{OfJob, told_same, not_zero, numbers_kept, exported_step, opened_numbers, opened_kept}

module _ (ns cx cy cz : List ℕ) (other : Stage) (N : OfJob ns) (t : Tables) (w : TotalTables) where
  -- a step from the job that the numbers tell
  from_told : (v : TotalTables) (c : StrainCall) (a : StrainAnswer) → StrainStep (state_of (job_in ns other) cx cy cz t) w c a v
      → StrainStep (state_kept (keeps ns cx cy cz t)) w c a v
  from_told v c a S = subst (λ (j : Job). StrainStep (state_of j cx cy cz t) w c a v) (told_same N other) S

  -- the answer of a total is what is stored
  answer_kept : (n r : ℕ) (sums sums' : List Float) (counts counts' : List ℕ) (X : ExportedTotal ns other cx cy cz w n r sums sums' counts counts')
      → strain_answer r X.found ≡ total_answer r sums' counts'
  answer_kept n zero sums sums' counts counts' X =
      sym (ap₂ (λ (s : List Float) (c : List ℕ). strain_answer 0 (totals_in s c)) X.sums_stored X.counts_stored)
  answer_kept n (suc r) sums sums' counts counts' X =
      let S = X.step t in
      rw (ne_eqb (suc r) 0 (not_zero r)) ((S.declined (λ z. not_zero r (S.told ∙ z))).0 ∙ ap (λ (q : ℕ). strain_answer q no_totals) (sym S.told))

  total_kept : (n r : ℕ) (sums sums' : List Float) (counts counts' : List ℕ) → ExportedTotal ns other cx cy cz w n r sums sums' counts counts'
      → StrainStep (state_kept (keeps ns cx cy cz t)) w (total n) (total_answer r sums' counts') w
  total_kept n r sums sums' counts counts' X =
      subst (λ (a : StrainAnswer). StrainStep (state_kept (keeps ns cx cy cz t)) w (total n) a w) (answer_kept n r sums sums' counts counts' X)
      (from_told w (total n) (strain_answer r X.found) (X.step t))

-- An exported call of item 1 is a step of the readings.
pub exported_strain : {k : Kept} {w v : TotalTables} {c : StrainCall} {a : StrainAnswer} → ExportedStrainCall k w c a v → OfJob (numbers_kept k) → StrainStep (state_kept k) w c a v
exported_strain (strained other S) N = from_told _ _ _ _ other N _ _ _ _ _ (S _ refl refl)
exported_strain (totalled X) N = total_kept _ _ _ _ _ N _ _ _ _ _ _ _ _ X

-- A list of exported calls is a run.
pub long_exported_run : {k : Kept} {w : TotalTables} {es : List StrainEvent} → LongExported k w es → OfJob (numbers_kept k) → LongRun StrainStep (state_kept k) w es
long_exported_run none N = LongRun.none
long_exported_run (next C L) N = let S = exported_step C N in LongRun.next S.0 (long_exported_run L S.1)
long_exported_run (next_added C L) N = LongRun.next_added (exported_strain C N) (long_exported_run L N)

-- Totals that are read in such a list are totals that are read: `sums_exact`, `totals_exact`, `totals_whole`, `outside_free`, `order_free` and `cutting_free` (theory_totals) hold of them.
pub exported_read : (o : Told) (lent left : Tables) (w v : TotalTables) (ns ns' : List ℕ) (own : ℕ → List ℕ) (es : List StrainEvent) (values : ℕ → List Float) (kinds : ℕ → List ℕ) (n : ℕ) (T : Totals) (u : TotalTables)
    → ExportedOpening ns ns' o lent left w v 0
    → ((b : ℕ) → b < blocks o.cutting → Labelling (block_extents o.cutting b) (own b))
    → LongExported (keeps ns' o.cutting.cx o.cutting.cy o.cutting.cz left) v es
    → LongFair own es
    → BringsLists values kinds es
    → Memᴰ (added (total n) (strain_answer 0 T) u) es
    → TotalRead o own values kinds n T
exported_read o lent left w v ns ns' own es values kinds n T u X labelled calls fair lists read =
    record {
      lent = lent;
      before = w;
      after = v;
      begin = state_kept (keeps ns' o.cutting.cx o.cutting.cy o.cutting.cz left);
      calls = es;
      opened = opened_kept X;
      labelled = labelled;
      run = long_exported_run calls (opened_numbers X);
      fair = fair;
      lists = lists;
      left = u;
      read = read;
    }

-- Statement 3's calls and item 1's, for the exports: every opening through `tugrelis_open` that answers 0, every list of calls through the other exports.
pub exports_totals : (o : Told) (lent left : Tables) (w v : TotalTables) (ns ns' : List ℕ) (own : ℕ → List ℕ) (es : List StrainEvent)
    → ExportedOpening ns ns' o lent left w v 0
    → ((b : ℕ) → b < blocks o.cutting → Labelling (block_extents o.cutting b) (own b))
    → LongExported (keeps ns' o.cutting.cx o.cutting.cy o.cutting.cz left) v es
    → LongFair own es
    → StrainMeasured own (begun o) no_readings es
exports_totals o lent left w v ns ns' own es X labelled calls fair =
    strain_statement o lent w v (state_kept (keeps ns' o.cutting.cx o.cutting.cy o.cutting.cz left)) own es
    (opened_kept X) labelled (long_exported_run calls (opened_numbers X)) fair
