-- What an accepted crossing step has passed, and that what it leaves is what the joiner asks for.
-- Assumes nothing.
use mathlib.Core.Path.{◌≡◌, refl, sym, ap, ◌∙◌}
use mathlib.Core.Bool.{true, false, true≢false}
use mathlib.Core.List.{List, []}
use Prim.Native.Nat.{ℕ, ◌≤◌, ◌<◌}
use native.Mathlib.Omega.{arith}
use lib.ListN.{get_or, length}
use borrow.Author.Tests.{eqb-true, ltb-true}
use Rattle.lists.proofs.Cases.{and_first}
use Rattle.cells.specs.Grid.{cells}
use Rattle.cutting.specs.Cutting.{Cutting, blocks, block_extents}
use Rattle.cutting.proofs.CutLaws.{block_sized}
use Rattle.joiner.specs.Job.{Kind, Face, Curve, Point, Points, Tables, State, tray, same_stage, from_of, block_trays, link_trays, found_trays, number_trays, first_trays, listed_trays, kind_trays}
use Rattle.joiner.specs.Stages.{crossing_step}
use Rattle.joiner.specs.Calls.{cross, answer}
use Rattle.joiner.specs.Declines.{adds, lent_to, map_stands, refusal}
use Rattle.joiner.specs.Outcomes.{CrossingDone, NumberedKind, CallStep, Merged, AtCrossing, Ticked, class_of, row_final}
use Rattle.joiner.proofs.Passed.{is_stage, not_stage, Passed, passed, fits_at_lem, tally_fits_lem, faces_stand_lem, curves_stand_lem}
use Rattle.joiner.proofs.Kept.{found_kept, numbers_kept_lem}
use Rattle.pass_cross.proofs.MergeLaws.{crossing_merged}
use Rattle.kind_numbers.proofs.NumberedLaws.{numbered_kind}
use Rattle.std.specs.Prelude.{Result, Ok, Err, IsErr, IsErrAnd}
use Rattle.refusals.specs.declared.Refusal.{Refusal}
use Rattle.refusals.specs.Refusals.{number, number_of}
use Rattle.refusals.proofs.RefusalLaws.{number_positive}
use Rattle.counts.specs.declared.Counts.{Counts}
use Rattle.blocks.specs.declared.Cuts.{Cuts}
use Rattle.job.specs.declared.Job.{Job}
use Rattle.job.specs.JobState.{by_kind, sofar_tally, job_after, job_by, no_counts, state_by}
use Rattle.job.specs.JobWith.{job_with}
use Rattle.job.specs.JobState as job
use Rattle.judge.specs.Judge.{lengths_of, entry_of}
use Rattle.stages.proofs.AdvancedLaws.{ticked_by, numbered_kept}
use Rattle.judge.proofs.JudgeLaws.{few_of, step_refused, step_accepted}
use Rattle.judge_cross.specs.Tests.{refusal_of}
use Rattle.judge_cross.proofs.TestLaws.{refusal_is}
use Rattle.store_cross.specs.Stores.{JoinReady, TalliesFit, CurvesJoined, KindRoom, BothNumbered}
use Rattle.step_cross.specs.Inner.{lent, Ready}

module _ (s : State) (b : ℕ) (m : List ℕ) where
  abbrev k : Cutting
  k = s.job.told.cutting

  adds_none : (κ : Kind) → adds s (cross b m) κ ≡ by_kind 0 0 0 κ
  unfolding adds
  adds_none Face = refl
  adds_none Curve = refl
  adds_none Point = refl

  -- ---- what an accepted step has passed

  module _ (acc : Ready s b m) where
    call_facts : Passed s (cross b m)
    call_facts = passed s (cross b m) acc.none

    at : (i : ℕ) → (get_or (lent_to s.job.told s.tables (cross b m)) i (tray 0 0)).has ≡ (get_or (lent_to s.job.told s.tables (cross b m)) i (tray 0 0)).states
    at i = fits_at_lem (lent_to s.job.told s.tables (cross b m)) i call_facts.lent

    tally : (κ : Kind) → s.job.sofar κ ≤ s.job.told.entries κ
    tally = tally_fits_lem s.job call_facts.tallies

    stands : map_stands s (block_extents k b) b m ≡ true
    stands = and_first (map_stands s (block_extents k b) b m) _ call_facts.stands

    map_whole : length m ≡ cells (block_extents k b)
    map_whole = eqb-true _ _ call_facts.maps

    there : b < blocks k
    there = ltb-true b (blocks k) call_facts.placed_in

    -- what the tick and the joins require
    pub join_ready : s.job.told.entries Face < 4294967296 → s.job.told.entries Curve < 4294967296
        → JoinReady k s.tables.ticks s.tables.blocks (s.tables.links Face) (s.tables.links Curve) b m
    unfolding block_trays link_trays from_of entry_of
    join_ready hf hc =
        let fs = faces_stand_lem s (block_extents k b) b m stands in
        let cs = curves_stand_lem s (block_extents k b) b m stands in
        record {
          within = omega (arith, there, at 0);
          few = few_of k call_facts.cut;
          trays = record {
            sized = block_sized k call_facts.cut b there;
            whole = map_whole;
            low = omega arith;
            high = omega arith;
            upper = record { most = omega (arith, fs.most, fs.behind, tally Face, at 2); fits = omega (arith, at 2, hf) };
            own = record { most = omega (arith, cs.most, cs.behind, tally Curve, at 3); fits = omega (arith, at 3, hc) };
          };
        }

    pub tallies_are : TalliesFit s.job
    tallies_are = record { each = tally }

    -- what the numbering requires
    pub faces_room : KindRoom 2 (s.job.sofar Face) (length (s.tables.keys Face)) (length (s.tables.numbers Face)) (length (s.tables.firsts Face)) (length (s.tables.listed Face))
    unfolding block_trays link_trays kind_trays found_trays number_trays first_trays listed_trays
    faces_room =
        record { on_keys = omega (arith, tally Face, at 4); on_numbers = omega (arith, tally Face, at 6); on_firsts = omega (arith, tally Face, at 7); on_listed = omega (arith, tally Face, at 8) }

    pub curves_room : KindRoom 4 (s.job.sofar Curve) (length (s.tables.keys Curve)) (length (s.tables.numbers Curve)) (length (s.tables.firsts Curve)) (length (s.tables.listed Curve))
    unfolding block_trays link_trays kind_trays found_trays number_trays first_trays listed_trays
    curves_room =
        record { on_keys = omega (arith, tally Curve, at 9); on_numbers = omega (arith, tally Curve, at 11); on_firsts = omega (arith, tally Curve, at 12); on_listed = omega (arith, tally Curve, at 13) }

-- ---- what an accepted step leaves

-- The job with so many faces and curves numbered.
abbrev numbered_job : Job → Counts → Job
numbered_job q r = job_with q q.stage (sofar_tally q) (by_kind r.faces r.curves q.numbered.points)

module _ (j : Job) (cuts : Cuts) (ticks ticks' table fl fl' cl cl' fk ck fr cr fn cn ff cf fs cs : List ℕ) (b : ℕ) (m : List ℕ) (q : Job)
    (J : CurvesJoined j cuts ticks ticks' table fl fl' cl cl' b m q) where
  abbrev before : State
  before = state_by j cuts (lent ticks table fl cl fk ck fr cr fn cn ff cf fs cs)

  curves_merged : Merged cl cl' (AtCrossing (job_by j cuts).told.cutting before.tables b m)
  unfolding from_of entry_of
  curves_merged = crossing_merged (job_by j cuts).told.cutting before.tables b m _ fl _ _ cl cl' refl refl refl refl J.crossed.joined

  tally_kept : (κ : Kind) → (job_by q cuts).numbered κ ≡ (job_by j cuts).numbered κ
  tally_kept = numbered_kept j cuts ticks ticks' (crossing_step b) no_counts q J.moved

  abbrev after : List ℕ → List ℕ → List ℕ → List ℕ → List ℕ → List ℕ → Tables
  after fn' cn' ff' cf' fs' cs' = lent ticks' table fl' cl' fk ck fr cr fn' cn' ff' cf' fs' cs'

  step_done : (fn' cn' ff' cf' fs' cs' : List ℕ) → Ticked before (state_by q cuts (after fn' cn' ff' cf' fs' cs')) (cross b m) (crossing_step b)
  step_done fn' cn' ff' cf' fs' cs' =
      ticked_by j cuts before.tables (after fn' cn' ff' cf' fs' cs') (cross b m) (crossing_step b) no_counts (adds_none before b m) q J.moved

  -- before the last
  pub done_before : same_stage (job.stage_of q.stage) Points ≡ false → CrossingDone before b m (state_by q cuts (after fn cn ff cf fs cs))
  done_before n = record {
    step = step_done fn cn ff cf fs cs;
    blocks = refl;
    faces = J.crossed.kept;
    curves = curves_merged;
    found = λ κ. found_kept refl;
    last = λ p. absurd (not_stage (job.stage_of q.stage) Points n p);
    before = λ _. (numbers_kept_lem (tally_kept Face) refl, numbers_kept_lem (tally_kept Curve) refl);
    points = numbers_kept_lem (tally_kept Point) refl;
  }

  -- the last
  module _ (fn' cn' ff' cf' fs' cs' : List ℕ) (r : Counts) (N : BothNumbered fl' cl' fk ck fr cr fn fn' cn cn' ff ff' cf cf' fs fs' cs cs' j.sofar.faces j.sofar.curves r) where
    abbrev closed : State
    closed = state_by (numbered_job q r) cuts (after fn' cn' ff' cf' fs' cs')

    faces_numbered : NumberedKind before closed Face j.sofar.faces
    unfolding class_of row_final
    faces_numbered = numbered_kind before closed Face j.sofar.faces (N.of_faces closed.tables Face refl (λ x. refl) refl refl (λ x. refl))

    curves_numbered : NumberedKind before closed Curve j.sofar.curves
    unfolding class_of
    curves_numbered = numbered_kind before closed Curve j.sofar.curves (N.of_curves closed.tables refl (λ x. refl) refl refl)

    pub done_last : same_stage (job.stage_of q.stage) Points ≡ true → CrossingDone before b m closed
    done_last n =
        let advanced = step_done fn' cn' ff' cf' fs' cs' in
        record {
          step = record { told = advanced.told; ticks = advanced.ticks; stage = advanced.stage; sofar = advanced.sofar };
          blocks = refl;
          faces = J.crossed.kept;
          curves = curves_merged;
          found = λ κ. found_kept refl;
          last = λ _. (faces_numbered, curves_numbered);
          before = λ p. absurd (p (is_stage (job.stage_of q.stage) Points n));
          points = numbers_kept_lem (tally_kept Point) refl;
        }

-- ---- the public entry

module _ (j : Job) (cuts : Cuts) (tables : Tables) (b : ℕ) (m : List ℕ) where
  abbrev start : State
  start = state_by j cuts tables

  abbrev judged : ℕ
  judged = refusal_of start.job tables.ticks (lengths_of tables) tables.blocks (tables.rows Curve) (tables.links Face) (tables.links Curve) b m

  pub cross_refused : (d : Refusal) → number d ≡ judged → (r : Result Job Refusal) → IsErr r × IsErrAnd r (λ x. x ≡ d)
      → CallStep start (cross b m) (answer (number_of r) 0 []) (state_by (job_after j r) cuts tables)
  cross_refused d q (Ok k) h = absurd (true≢false (sym h.0))
  cross_refused d q (Err x) h =
      step_refused start (cross b m) (number x) (ap number h.1 ∙ q ∙ sym (refusal_is start b m)) (λ y. absurd (omega (arith, number_positive x, y)))

  module _ (q : 0 ≡ judged) where
    told_number : 0 ≡ refusal start (cross b m)
    told_number = q ∙ sym (refusal_is start b m)

    pub ready : Ready start b m
    ready = record { none = sym told_number }

    pub cross_accepted : (t : State) → CrossingDone start b m t → CallStep start (cross b m) (answer 0 0 []) t
    cross_accepted t d = step_accepted start (cross b m) 0 told_number refl (answer 0 0 []) t refl (refl, d)
