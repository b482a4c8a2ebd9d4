-- A ticked step is what the joiner asks for. Assumes nothing.
use mathlib.Core.Path.{◌≡◌, refl, sym, ap, subst, ◌∙◌}
use mathlib.Core.List.{List}
use Prim.Native.Nat.{ℕ, ◌+◌}
use lib.ListN.{set}
use Rattle.joiner.specs.Job.{Kind, Face, Curve, Point, Tables}
use Rattle.joiner.specs.Stages.{next_after}
use Rattle.joiner.specs.Calls.{Call}
use Rattle.joiner.specs.Declines.{adds}
use Rattle.joiner.specs.Outcomes.{Ticked}
use Rattle.blocks.specs.Blocks.{AnyExtents}
use Rattle.blocks.specs.declared.Cuts.{Cuts}
use Rattle.cells.specs.Box.{triple}
use Rattle.counts.specs.declared.Counts.{Counts}
use Rattle.job.specs.declared.Job.{Job}
use Rattle.job.specs.declared.Stage.{Stage}
use Rattle.job.specs.JobState.{by_kind, stage_of, job_by, state_by}
use Rattle.stages.specs.Ticks.{ticked_in}
use Rattle.stages.specs.Advanced.{moved_on, Advanced}
use Rattle.stages.proofs.StageLaws.{next_told}

pub advanced : (j : Job) (c : Cuts) (ticks ticks' : List ℕ) (step : ℕ) (more : Counts) (s : Stage) → ticks' ≡ set ticks step 1
    → AnyExtents c (λ k. stage_of s ≡ next_after k (ticked_in ticks') (stage_of j.stage))
    → Advanced j c ticks ticks' step more (moved_on j s more)
advanced j c ticks ticks' step more s e h = record { is = refl; one = e; next = h (triple j.nx j.ny j.nz) }

module _ (j : Job) (cuts : Cuts) (t t' : Tables) (c : Call) (step : ℕ) (more : Counts)
    (added : (κ : Kind) → adds (state_by j cuts t) c κ ≡ by_kind more.faces more.curves more.points κ) where
  sums : (s : Stage) (κ : Kind) → (job_by (moved_on j s more) cuts).sofar κ ≡ (job_by j cuts).sofar κ + by_kind more.faces more.curves more.points κ
  sums s Face = refl
  sums s Curve = refl
  sums s Point = refl

  moved : (s : Stage) → t'.ticks ≡ set t.ticks step 1 → stage_of s ≡ next_after (job_by j cuts).told.cutting (ticked_in t'.ticks) (stage_of j.stage)
      → Ticked (state_by j cuts t) (state_by (moved_on j s more) cuts t') c step
  moved s e h =
      record {
        told = refl;
        ticks = e;
        stage = next_told (job_by j cuts).told.cutting t' (stage_of j.stage) (stage_of s) h;
        sofar = λ κ. sums s κ ∙ ap (λ (x : ℕ). (job_by j cuts).sofar κ + x) (sym (added κ));
      }

  -- A ticked step is what the joiner asks for.
  pub ticked_by : (r : Job) → Advanced j cuts t.ticks t'.ticks step more r → Ticked (state_by j cuts t) (state_by r cuts t') c step
  ticked_by r A = subst (λ (x : Job). Ticked (state_by j cuts t) (state_by x cuts t') c step) (sym A.is) (moved r.stage A.one A.next)

-- What is numbered stays.
pub numbered_kept : (j : Job) (c : Cuts) (ticks ticks' : List ℕ) (step : ℕ) (more : Counts) (r : Job) → Advanced j c ticks ticks' step more r
    → (κ : Kind) → (job_by r c).numbered κ ≡ (job_by j c).numbered κ
numbered_kept j c ticks ticks' step more r A κ = ap (λ (x : Job). (job_by x c).numbered κ) A.is
