-- What an accepted seam step leaves is what the joiner asks for.
-- Assumes nothing.
use mathlib.Core.Path.{◌≡◌, refl, sym, ap, ◌∙◌}
use mathlib.Core.Bool.{true, true≢false}
use mathlib.Core.List.{List, []}
use Prim.Native.Nat.{ℕ, ◌+◌, ◌-◌, ◌*◌, ◌≤◌, ◌<◌}
use native.Mathlib.Nat.{le_refl}
use native.Mathlib.Omega.{arith}
use lib.ListN.{length}
use Rattle.lists.proofs.Cases.{and_first, and_second}
use Rattle.closure.specs.Joined.{joins}
use Rattle.union_find.specs.Links.{root, Rooted}
use Rattle.cells.specs.Extents.{Sized}
use Rattle.labels.specs.Components.{largest}
use Rattle.labels.proofs.CountLaws.{largest_bound}
use Rattle.cutting.specs.Cutting.{Cutting, block_extents, FewBlocks}
use Rattle.joiner.specs.Job.{Kind, Face, Curve, Point, State, order_of, from_of, block_trays, link_trays, ticks_per_block}
use Rattle.joiner.specs.Stages.{seam_axis, seam_step}
use Rattle.joiner.specs.Calls.{join, answer}
use Rattle.joiner.specs.Declines.{adds, lent_to, map_stands, refusal}
use Rattle.joiner.specs.Outcomes.{SeamDone, CallStep, Merged, AtSeam}
use Rattle.joiner.proofs.Shared.{seam_listed}
use Rattle.joiner.proofs.SeamSteps.{axis_bound}
use Rattle.joiner.proofs.Passed.{Passed, passed, fits_at_lem, tally_fits_lem, Standing, faces_stand_lem, curves_stand_lem}
use Rattle.joiner.proofs.Kept.{found_kept, numbers_kept_lem}
use Rattle.pass_seam.specs.Walks.{layer_edges}
use Rattle.pass_seam.proofs.SeamWalks.{seam_joined}
use Rattle.blocks.specs.Blocks.{Tells, size_of}
use Rattle.blocks.specs.declared.Block.{Block}
use Rattle.blocks.specs.declared.Cuts.{Cuts}
use Rattle.std.specs.Prelude.{Result, Ok, Err, IsErr, IsErrAnd}
use Rattle.refusals.specs.declared.Refusal.{Refusal}
use Rattle.refusals.specs.Refusals.{number, number_of}
use Rattle.refusals.proofs.RefusalLaws.{number_positive}
use Rattle.job.specs.declared.Job.{Job}
use Rattle.job.specs.JobState.{by_kind, job_after, job_by, no_counts, state_by}
use Rattle.judge.specs.declared.Entry.{Entry}
use Rattle.stages.specs.Advanced.{Advanced}
use Rattle.judge.specs.Judge.{entry_of}
use Rattle.stages.proofs.AdvancedLaws.{ticked_by, numbered_kept}
use Rattle.judge.proofs.JudgeLaws.{few_of, step_refused}
use Rattle.judge_seam.specs.declared.Shared.{Shared}
use Rattle.judge_seam.specs.Tests.{lent, SharedBy}
use Rattle.judge_seam.proofs.TestLaws.{lower_sized, upper_sized}
use Rattle.step_seam.specs.Inner.{Linked}

module _ (j : Job) (cuts : Cuts) (ticks blocks' faces curves : List ℕ) (b c : ℕ) (m n : List ℕ) where
  abbrev pub k : Cutting
  k = (job_by j cuts).told.cutting

  abbrev pub before : State
  before = state_by j cuts (lent ticks blocks' faces curves)

  adds_none : (κ : Kind) → adds before (join b c m n) κ ≡ by_kind no_counts.faces no_counts.curves no_counts.points κ
  unfolding adds
  adds_none Face = refl
  adds_none Curve = refl
  adds_none Point = refl

  -- ---- what an accepted step has passed

  module _ (acc : refusal before (join b c m n) ≡ 0) where
    call_facts : Passed before (join b c m n)
    call_facts = passed before (join b c m n) acc

    pub seam_few : FewBlocks cuts.x.now cuts.y.now cuts.z.now
    seam_few = few_of k call_facts.cut

    pub low_sized : (r : Block) → Tells k b r → Sized 64 (size_of r)
    low_sized = lower_sized k b c call_facts.cut call_facts.placed_in

    pub high_sized : (r : Block) → Tells k c r → Sized 64 (size_of r)
    high_sized = upper_sized k b c call_facts.cut call_facts.placed_in

    pub step_in : (axis step : ℕ) → axis ≡ seam_axis k b c → step ≡ ticks_per_block * b + axis → step < length ticks
    unfolding block_trays
    step_in axis step e f = omega (arith, axis_bound k b c, (seam_listed k b c call_facts.placed_in).0, fits_at_lem (lent_to before.job.told before.tables (join b c m n)) 0 call_facts.lent)

    pub seam_sums : (j.sofar.faces + 0 ≤ j.entries.faces) × (j.sofar.curves + 0 ≤ j.entries.curves) × (j.sofar.points + 0 ≤ j.entries.points)
    seam_sums =
        let h : (κ : Kind) → before.job.sofar κ ≤ before.job.told.entries κ = tally_fits_lem before.job call_facts.tallies in
        (omega (arith, h Face), omega (arith, h Curve), omega (arith, h Point))

    pub face_length : length faces ≡ j.entries.faces
    unfolding block_trays link_trays
    face_length = fits_at_lem (lent_to before.job.told before.tables (join b c m n)) 2 call_facts.lent

    pub curve_length : length curves ≡ j.entries.curves
    unfolding block_trays link_trays
    curve_length = fits_at_lem (lent_to before.job.told before.tables (join b c m n)) 3 call_facts.lent

    lower_stands : map_stands before (block_extents k b) b m ≡ true
    lower_stands = and_first (map_stands before (block_extents k b) b m) _ call_facts.stands

    upper_stands_lem : map_stands before (block_extents k c) c n ≡ true
    upper_stands_lem = and_first (map_stands before (block_extents k c) c n) _ (and_second (map_stands before (block_extents k b) b m) _ call_facts.stands)

    -- ---- what it leaves

    module _ (axis : ℕ) (low high : Block) (sh : Shared) (number_is : axis ≡ seam_axis k b c) (A : Tells k b low) (B : Tells k c high) (S : SharedBy low high axis sh) where
      merged : (κ : Kind) (odd size : ℕ) → odd ≡ 3 - order_of κ → Standing before (block_extents k b) b m κ → Standing before (block_extents k c) c n κ → before.job.told.entries κ ≤ size
          → (xs ys : List ℕ)
          → Rooted xs ys (joins (root xs) (layer_edges m sh.lower n sh.upper odd (from_of before.tables κ b) (from_of before.tables κ c) size sh.columns sh.rows))
          → Merged xs ys (AtSeam k before.tables κ b c m n)
      merged κ odd size o L U h xs ys J =
          seam_joined k call_facts.cut b c call_facts.placed_in axis sh.columns sh.rows number_is m sh.lower n sh.upper
          (rw A.size at S.last) (rw B.size at S.first) (rw A.size at S.wide) (rw A.size at S.deep)
          before.tables κ odd size o
          (λ p i q. omega (arith, largest_bound (block_extents k b) m p i, ap (largest (block_extents k b) m) q, L.most))
          (λ p i q. omega (arith, largest_bound (block_extents k c) n p i, ap (largest (block_extents k c) n) q, U.most))
          (omega (arith, L.behind, h)) (omega (arith, U.behind, h)) xs ys J

      module _ (faces' curves' : List ℕ) (K : Linked faces faces' curves curves' sh (entry_of blocks' b) (entry_of blocks' c) j.entries.faces j.entries.curves m n) where
        faces_merged : Merged faces faces' (AtSeam k before.tables Face b c m n)
        unfolding from_of entry_of
        faces_merged =
            merged Face 1 j.entries.faces refl (faces_stand_lem before (block_extents k b) b m lower_stands) (faces_stand_lem before (block_extents k c) c n upper_stands_lem)
            (le_refl j.entries.faces) faces faces' K.of_faces

        curves_merged : Merged curves curves' (AtSeam k before.tables Curve b c m n)
        unfolding from_of entry_of
        curves_merged =
            merged Curve 2 j.entries.curves refl (curves_stand_lem before (block_extents k b) b m lower_stands) (curves_stand_lem before (block_extents k c) c n upper_stands_lem)
            (le_refl j.entries.curves) curves curves' K.of_curves

      pub seam_done : (d g : Entry) → d ≡ entry_of blocks' b → g ≡ entry_of blocks' c → (step : ℕ) → step ≡ ticks_per_block * b + axis → (next : Job) (ticks' faces' curves' : List ℕ)
          → Advanced j cuts ticks ticks' step no_counts next → Linked faces faces' curves curves' sh d g j.entries.faces j.entries.curves m n
          → SeamDone before b c m n (state_by next cuts (lent ticks' blocks' faces' curves'))
      unfolding seam_step
      seam_done d g p q step e next ticks' faces' curves' T K =
          let L = rw (p, q) at K in
          let A = rw (e, number_is) at T in
          record {
            step = ticked_by j cuts (lent ticks blocks' faces curves) (lent ticks' blocks' faces' curves') (join b c m n) (ticks_per_block * b + seam_axis k b c) no_counts adds_none next A;
            blocks = refl;
            faces = faces_merged faces' curves' L;
            curves = curves_merged faces' curves' L;
            found = λ κ. found_kept refl;
            numbers = λ κ. numbers_kept_lem (numbered_kept j cuts ticks ticks' step no_counts next T κ) refl;
          }

  -- ---- the public entry

  pub seam_refused : (d : Refusal) → number d ≡ refusal before (join b c m n) → (r : Result Job Refusal) → IsErr r × IsErrAnd r (λ x. x ≡ d)
      → CallStep before (join b c m n) (answer (number_of r) 0 []) (state_by (job_after j r) cuts (lent ticks blocks' faces curves))
  seam_refused d e (Ok k) h = absurd (true≢false (sym h.0))
  seam_refused d e (Err x) h = step_refused before (join b c m n) (number x) (ap number h.1 ∙ e) (λ y. absurd (omega (arith, number_positive x, y)))
