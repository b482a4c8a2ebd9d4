-- The ways of the tests of an enrolment, over plain lists and numbers. Assumes nothing.
use mathlib.Core.Path.{◌≡◌, refl, sym, ap, ◌∙◌}
use mathlib.Core.Bool.{Bool, true, false, and-true, or-false, true≢false}
use mathlib.Core.List.{List, []}
use Prim.Native.Nat.{ℕ, ◌+◌, ◌≤◌}
use native.Mathlib.Omega.{arith}
use lib.Dec.{ltb}
use lib.ListN.{length}
use borrow.Author.Tests.{le-ltb}
use Rattle.std.specs.Prelude.{Result, Ok, Err, IsErr, IsErrAnd}
use Rattle.refusals.specs.declared.Refusal.{Refusal}
use Rattle.refusals.specs.Refusals.{number}
use Rattle.cells.specs.Box.{triple}
use Rattle.cells.specs.declared.Triple.{Triple}
use Rattle.cells.specs.Extents.{Sized}
use Rattle.cells.specs.Grid.{cells}
use Rattle.labels.specs.Components.{largest}
use Rattle.joiner.specs.Job.{Point, State, ticked}
use Rattle.joiner.specs.Stages.{enrol_step}
use Rattle.joiner.specs.Calls.{enrol, full, overfull}
use Rattle.joiner.specs.Declines.{tallies_fit, stray, adds, refusal}
use Rattle.joiner.proofs.Passed.{tally_fits_lem}
use Rattle.blocks.specs.Blocks.{AnyExtents, size_of, Tells}
use Rattle.blocks.specs.declared.Block.{Block}
use Rattle.blocks.specs.declared.Cuts.{Cuts}
use Rattle.counts.specs.declared.Counts.{Counts}
use Rattle.job.specs.declared.Job.{Job}
use Rattle.job.specs.JobState.{by_kind, AnyCuts, job_by, job_of}
use Rattle.stages.specs.Ticks.{ticked_in}
use Rattle.judge.specs.declared.CallName.{CallName}
use Rattle.judge.specs.declared.Lengths.{Lengths}
use Rattle.judge.specs.Judge.{lengths_of, lengths_judged}
use Rattle.judge.proofs.JudgeLaws.{block_sized, refusal_lengths, lengths_passed, passed_first, refused_first}
use Rattle.judge_enrol.specs.Tests.{late_of, refusal_of, Planned, Judged}

-- ---- tallies

module _ (fe ce pe f c p df dc : ℕ) where
  -- no points are added
  module _ (t : Bool) (e : t ≡ ltb fe (f + df)) where
    pub full_here : t ≡ true → t ≡ full (by_kind fe ce pe) (by_kind f c p) (by_kind df dc 0)
    unfolding full overfull
    full_here q = rw (sym e ∙ q) q

    pub full_next : t ≡ false → p ≤ pe → (u : Bool) → u ≡ ltb ce (c + dc) → u ≡ full (by_kind fe ce pe) (by_kind f c p) (by_kind df dc 0)
    unfolding full overfull
    full_next q h u i = let z : ltb pe (p + 0) ≡ false = le-ltb pe (p + 0) (omega arith) in rw (sym e ∙ q, z, ← i) (sym (or-false u))

pub late_points : (j : Job) (t : Bool) → AnyCuts (λ cx cy cz. t ≡ tallies_fit (job_of j cx cy cz)) → t ≡ true → j.sofar.points ≤ j.entries.points
late_points j t e q = tally_fits_lem (job_of j [] [] []) (sym (e [] [] []) ∙ q) Point

-- ---- the ways of `judge_enrolment`

module _ (j : Job) (cuts : Cuts) (ticks : List ℕ) (z : Lengths) (b : ℕ) (m : List ℕ) where
  abbrev judges : Result Counts Refusal → Type 0
  judges r = Judged (job_by j cuts) ticks z b m r

  -- what is refused
  judged_err : (r : Result Counts Refusal) (e : Refusal) → IsErr r × IsErrAnd r (λ x. x ≡ e) → number e ≡ refusal_of (job_by j cuts) ticks z b m → judges r
  judged_err (Ok n) e i h = absurd (true≢false (sym i.0))
  judged_err (Err d) e i h = record { told = ap number i.1 ∙ h; plan = tt }

  pub judged_early : (r : Result Counts Refusal) (e : Refusal) → IsErr r × IsErrAnd r (λ x. x ≡ e)
      → number e ≡ lengths_judged (job_by j cuts) ticks CallName.Enrol z b (enrol_step b) (length m) → judges r
  unfolding refusal_of
  judged_early r e i h = judged_err r e i (refused_first e _ _ h)

  module _ (q : 0 ≡ lengths_judged (job_by j cuts) ticks CallName.Enrol z b (enrol_step b) (length m)) (r : Block) (T : AnyExtents cuts (λ k. Tells k b r)) where
    abbrev told_here : Tells (job_by j cuts).told.cutting b r
    told_here = T (triple j.nx j.ny j.nz)

    -- what `survey_map` requires
    pub plan_map : Sized 64 (size_of r) × (length m ≡ cells (size_of r))
    plan_map =
        let p = lengths_passed (job_by j cuts) ticks CallName.Enrol z b (enrol_step b) (length m) (sym q) in
        (block_sized (job_by j cuts).told.cutting p.0.good b p.1 r told_here, p.2 ∙ ap cells (sym told_here.size))

    module _ (s : Counts) (x : s.faces ≡ largest (size_of r) m 2) (y : s.curves ≡ largest (size_of r) m 1) (w : s.points ≡ largest (size_of r) m 0) where
      abbrev by_order : ℕ → Triple → ℕ
      by_order o v = largest v m o

      planned : Planned (job_by j cuts) b m s
      planned = record {
        faces = x ∙ ap (by_order 2) told_here.size;
        curves = y ∙ ap (by_order 1) told_here.size;
        points = w ∙ ap (by_order 0) told_here.size;
      }

      plan_late : (l : ℕ) → AnyCuts (λ cx cy cz. l ≡ late_of (job_of j cx cy cz) (by_kind s.faces s.curves 0)) → l ≡ refusal_of (job_by j cuts) ticks z b m
      unfolding refusal_of
      plan_late l i = rw (← planned.faces, ← planned.curves) (passed_first _ _ l q (i cuts.x.now cuts.y.now cuts.z.now))

      pub judged_late : (r : Result Counts Refusal) (e : Refusal) → IsErr r × IsErrAnd r (λ v. v ≡ e)
          → AnyCuts (λ cx cy cz. number e ≡ late_of (job_of j cx cy cz) (by_kind s.faces s.curves 0)) → judges r
      judged_late r e i h = judged_err r e i (plan_late (number e) h)

      pub judged_ok : AnyCuts (λ cx cy cz. 0 ≡ late_of (job_of j cx cy cz) (by_kind s.faces s.curves 0)) → judges (Ok s)
      judged_ok h = record { told = plan_late 0 h; plan = planned }

-- ---- the joiner's refusal

pub refusal_is : (s : State) (b : ℕ) (m : List ℕ) → refusal s (enrol b m) ≡ refusal_of s.job s.tables.ticks (lengths_of s.tables) b m
unfolding refusal_of late_of stray full overfull adds ticked ticked_in
refusal_is s b m = refusal_lengths s (enrol b m) refl b m refl (enrol_step b) refl refl ∙ rw (and-true (tallies_fit s.job))
