-- Lists of calls through the public entries, those of items 1 and 12 among them: the whole list is what the day book and the book of readings say, and the answers of
-- a list of cells are the uncut numbers.
-- Assumes nothing.
use mathlib.Core.Path.{◌≡◌, sym}
use mathlib.Core.List.{List, Memᴰ}
use Prim.Native.Nat.{ℕ, ◌<◌}
use lib.ListN.{length, take}
use Rattle.lists.specs.Lists.{tabulate}
use Rattle.labels.specs.Number.{labels}
use Rattle.cutting.specs.Cutting.{blocks, block_extents}
use Rattle.joiner.specs.Job.{Told, Tables}
use Rattle.joiner.specs.Stages.{codes_of}
use Rattle.joiner.specs.Book.{begun}
use Rattle.joiner.specs.Statement.{Labelling}
use Rattle.strain_calls.specs.Tables.{TotalTables}
use Rattle.strain_calls.specs.Outcomes.{StrainStep}
use Rattle.cell_calls.specs.Cells.{CellLists, cell_count}
use Rattle.cell_calls.specs.Calls.{CellCall, CellAnswer}
use Rattle.cell_calls.specs.Outcomes.{CellStep}
use Rattle.theory_totals.specs.Book.{no_readings}
use Rattle.theory_totals.specs.Statement.{LongFair, StrainMeasured}
use Rattle.theory_totals.proofs.StrainStatement.{base_fair, strain_statement}
use Rattle.theory_cells.specs.Book.{number_at}
use Rattle.theory_cells.specs.Statement.{earlier_calls, CellRun, CellFair, CellMeasured, Supposed, Needs, Handed}
use Rattle.theory_cells.proofs.CellStatement.{earlier_run, cell_statement, list_answered}
use Rattle.theory_service.specs.EntryContracts.{Held, state_in, OpenedBy}
use Rattle.theory_service.specs.CellContracts.{CalledCells, requested, filled, ServiceEvent, ServiceCalls, none, next, next_added, next_cells}
use Rattle.theory_service.proofs.Service.{opened_opening, called_step}
use Rattle.theory_service.proofs.StrainService.{called_strain}

-- A call of item 12 through its public entry is a step.
pub called_cells : {h : Held} {c : CellCall} {a : CellAnswer} → CalledCells h c a → CellStep (state_in h) c a
called_cells {h = h} (requested S) = S (state_in h).tables
called_cells {h = h} (filled S) = S (state_in h).tables

-- A list of calls through the public entries is a run.
pub service_run : {h : Held} {w : TotalTables} {es : List ServiceEvent} → ServiceCalls h w es → CellRun StrainStep (state_in h) w es
service_run none = CellRun.none
service_run (next C L) = CellRun.next (called_step C) (service_run L)
service_run (next_added C L) = CellRun.next_added (called_strain C) (service_run L)
service_run (next_cells C L) = CellRun.next_cells (called_cells C) (service_run L)

module _ (o : Told) (lent : Tables) (w v : TotalTables) (h : Held) (own : ℕ → List ℕ) (es : List ServiceEvent) (by : OpenedBy o lent w 0 h v)
    (labelled : (b : ℕ) → b < blocks o.cutting → Labelling (block_extents o.cutting b) (own b)) (calls : ServiceCalls h v es)
    (fair : LongFair own (earlier_calls es)) (cells_fair : CellFair own es) where
  supposed : Supposed StrainStep o own es
  supposed =
      let O = opened_opening by in
      record {
        lent = lent;
        begin = state_in h;
        beside = v;
        opened = (O.opened (sym O.told)).opened;
        labelled = labelled;
        run = service_run calls;
        fair = base_fair own (earlier_calls es) fair;
        cells_fair = cells_fair;
      }

  -- For the public entries: every opening through `open` that is accepted, every list of calls through the other public entries. The calls of statement 3 and of item 1
  -- are what their books say, and so are those of item 12.
  pub service_cells : StrainMeasured own (begun o) no_readings (earlier_calls es) × CellMeasured own (begun o) es
  service_cells =
      let O = opened_opening by in
      (strain_statement o lent w v (state_in h) own (earlier_calls es) (O.opened (sym O.told)) labelled (earlier_run (service_run calls)) fair, cell_statement _ _ _ StrainStep o own es supposed)

  -- Once each needed block has come, the answers of a list of cells are the uncut numbers in the order sent.
  pub service_answered : (l : CellLists) (t u bs : List ℕ) → Handed l t es bs u → ((b : ℕ) → Needs o.cutting l b → Memᴰ b bs)
      → (take (cell_count l) u ≡ tabulate (cell_count l) (number_at o.cutting.extents (labels o.cutting.extents (codes_of o.cutting own)) l)) × (0 < cell_count l → length u ≡ cell_count l)
  service_answered l t u bs H all_come = list_answered _ _ _ StrainStep o own es l t u bs supposed H all_come
