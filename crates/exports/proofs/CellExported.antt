-- Lists of exported calls, those of items 1 and 12 among them: the whole list is what the day book and the book of readings say, and the answers of a list of cells
-- are the uncut numbers.
-- Assumes nothing.
use mathlib.Core.Path.{◌≡◌, sym, ap, subst}
use mathlib.Core.List.{List, Memᴰ}
use Prim.Native.Nat.{ℕ, zero, suc, ◌<◌}
use lib.ListN.{length, take}
use borrow.Author.Tests.{ne_eqb}
use Rattle.lists.specs.Lists.{tabulate}
use Rattle.labels.specs.Number.{labels}
use Rattle.cutting.specs.Cutting.{blocks, block_extents}
use Rattle.joiner.specs.Job.{Told, Tables}
use Rattle.joiner.specs.Stages.{codes_of}
use Rattle.joiner.specs.Book.{begun}
use Rattle.joiner.specs.Statement.{Labelling}
use Rattle.job.specs.declared.Job.{Job}
use Rattle.job.specs.declared.Stage.{Stage}
use Rattle.job.specs.JobState.{state_of}
use Rattle.job_numbers.specs.Numbers.{job_in}
use Rattle.strain_calls.specs.Tables.{TotalTables}
use Rattle.strain_calls.specs.Calls.{StrainCall, StrainAnswer}
use Rattle.strain_calls.specs.Outcomes.{StrainStep}
use Rattle.cell_calls.specs.Cells.{CellLists, cell_count}
use Rattle.cell_calls.specs.Calls.{CellCall, request, CellAnswer, cell_answer}
use Rattle.cell_calls.specs.Outcomes.{CellStep}
use Rattle.cell_calls.proofs.AnswerLaws.{step_refused}
use Rattle.theory_totals.specs.Book.{no_readings}
use Rattle.theory_totals.specs.Statement.{LongFair, StrainMeasured}
use Rattle.theory_totals.proofs.StrainStatement.{base_fair, strain_statement}
use Rattle.theory_cells.specs.Book.{number_at}
use Rattle.theory_cells.specs.Statement.{CellEvent, earlier_calls, CellRun, CellFair, CellMeasured, Supposed, Needs, Handed}
use Rattle.theory_cells.proofs.CellStatement.{earlier_run, cell_statement, list_answered}
use Rattle.exports.specs.Exports.{ExportedOpening}
use Rattle.exports.specs.Calls.{Kept, keeps, state_kept}
use Rattle.exports.specs.CellCalls.{ExportedRequest, request_answer, ExportedCellCall, requested, filled, ServiceExported, none, next, next_added, next_cells}
use Rattle.exports.proofs.Exported.{OfJob, told_same, not_zero, numbers_kept, exported_step, opened_numbers, opened_kept}
use Rattle.exports.proofs.StrainExported.{exported_strain}

module _ (ns cx cy cz : List ℕ) (other : Stage) (N : OfJob ns) (t : Tables) where
  -- a step from the job that the numbers tell
  from_told : (c : CellCall) (a : CellAnswer) → CellStep (state_of (job_in ns other) cx cy cz t) c a → CellStep (state_kept (keeps ns cx cy cz t)) c a
  from_told c a S = subst (λ (j : Job). CellStep (state_of j cx cy cz t) c a) (told_same N other) S

  -- the answer of a request is what is stored
  answer_kept : (l : CellLists) (w w' : List ℕ) (r n n' : ℕ) (X : ExportedRequest ns other cx cy cz t l w w' r n n') → cell_answer r X.found w' ≡ request_answer r n' w'
  answer_kept l w w' zero n n' X = ap (λ (m : ℕ). cell_answer 0 m w') (sym X.number)
  answer_kept l w w' (suc r) n n' X =
      let s = state_of (job_in ns other) cx cy cz t in
      let d = step_refused s (request l w) (cell_answer (suc r) X.found w') X.step (not_zero r) in
      rw (ne_eqb (suc r) 0 (not_zero r)) (ap (λ (m : ℕ). cell_answer (suc r) m w') (ap (λ (a : CellAnswer). a.many) d))

  request_kept : (l : CellLists) (w w' : List ℕ) (r n n' : ℕ) → ExportedRequest ns other cx cy cz t l w w' r n n' → CellStep (state_kept (keeps ns cx cy cz t)) (request l w) (request_answer r n' w')
  request_kept l w w' r n n' X =
      subst (λ (a : CellAnswer). CellStep (state_kept (keeps ns cx cy cz t)) (request l w) a) (answer_kept l w w' r n n' X) (from_told (request l w) (cell_answer r X.found w') X.step)

-- An exported call of item 12 is a step.
pub exported_cells : {k : Kept} {c : CellCall} {a : CellAnswer} → ExportedCellCall k c a → OfJob (numbers_kept k) → CellStep (state_kept k) c a
exported_cells (requested X) N = request_kept _ _ _ _ _ N _ _ _ _ _ _ _ X
exported_cells (filled other S) N = from_told _ _ _ _ other N _ _ _ S

-- A list of exported calls is a run.
pub service_exported_run : {k : Kept} {w : TotalTables} {es : List (CellEvent StrainCall StrainAnswer TotalTables)} → ServiceExported k w es → OfJob (numbers_kept k)
    → CellRun StrainStep (state_kept k) w es
service_exported_run none N = CellRun.none
service_exported_run (next C L) N = let S = exported_step C N in CellRun.next S.0 (service_exported_run L S.1)
service_exported_run (next_added C L) N = CellRun.next_added (exported_strain C N) (service_exported_run L N)
service_exported_run (next_cells C L) N = CellRun.next_cells (exported_cells C N) (service_exported_run L N)

module _ (o : Told) (lent left : Tables) (w v : TotalTables) (ns ns' : List ℕ) (own : ℕ → List ℕ) (es : List (CellEvent StrainCall StrainAnswer TotalTables))
    (X : ExportedOpening ns ns' o lent left w v 0) (labelled : (b : ℕ) → b < blocks o.cutting → Labelling (block_extents o.cutting b) (own b))
    (calls : ServiceExported (keeps ns' o.cutting.cx o.cutting.cy o.cutting.cz left) v es) (fair : LongFair own (earlier_calls es)) (cells_fair : CellFair own es) where
  abbrev held_first : Kept
  held_first = keeps ns' o.cutting.cx o.cutting.cy o.cutting.cz left

  supposed : Supposed StrainStep o own es
  supposed =
      record {
        lent = lent;
        begin = state_kept held_first;
        beside = v;
        opened = (opened_kept X).opened;
        labelled = labelled;
        run = service_exported_run calls (opened_numbers X);
        fair = base_fair own (earlier_calls es) fair;
        cells_fair = cells_fair;
      }

  -- For the exports: every opening through `tugrelis_open` that answers 0, every list of calls through the other exports.
  pub exports_cells : StrainMeasured own (begun o) no_readings (earlier_calls es) × CellMeasured own (begun o) es
  exports_cells =
      (strain_statement o lent w v (state_kept held_first) own (earlier_calls es) (opened_kept X) labelled (earlier_run (service_exported_run calls (opened_numbers X))) fair, cell_statement _ _ _ StrainStep o own es supposed)

  -- Once each needed block has come, the answers of a list of cells are the uncut numbers in the order sent.
  pub exports_answered : (l : CellLists) (t u bs : List ℕ) → Handed l t es bs u → ((b : ℕ) → Needs o.cutting l b → Memᴰ b bs)
      → (take (cell_count l) u ≡ tabulate (cell_count l) (number_at o.cutting.extents (labels o.cutting.extents (codes_of o.cutting own)) l)) × (0 < cell_count l → length u ≡ cell_count l)
  exports_answered l t u bs H all_come = list_answered _ _ _ StrainStep o own es l t u bs supposed H all_come
