-- The numbers of a job tell the job.
-- Assumes nothing.
use mathlib.Core.Path.{◌≡◌, refl, sym, ◌∙◌}
use mathlib.Core.List.{List}
use Prim.Native.Nat.{ℕ}
use borrow.Author.Tests.{eq-eqb, ne_eqb}
use Rattle.std.specs.Prelude.{Ok, Err}
use Rattle.joiner.specs.Job.{stage_number}
use Rattle.job.specs.declared.Job.{Job}
use Rattle.job.specs.declared.Stage.{Stage}
use Rattle.job.specs.JobState.{stage_of}
use Rattle.job_numbers.specs.Numbers.{stage_in, job_in, numbers_of, kept_numbers, KeptAfter}
use Rattle.refusals.specs.declared.Refusal.{Refusal}
use Rattle.refusals.specs.Refusals.{number}
use Rattle.refusals.proofs.RefusalLaws.{number_nonzero}

stage_back : (s other : Stage) → stage_in (stage_number (stage_of s)) other ≡ s
unfolding stage_in
stage_back Stage.Enrol other = refl
stage_back Stage.Seam other = refl
stage_back Stage.Crossing other = refl
stage_back Stage.Points other = refl
stage_back Stage.Closed other = refl

pub job_back : (j : Job) (other : Stage) → job_in (numbers_of j) other ≡ j
unfolding job_in numbers_of
job_back j other = rw (stage_back j.stage other)

-- ---- the ways of `keep`

pub kept_new : (refusal : ℕ) (ns : List ℕ) (j : Job) → refusal ≡ 0 → (ms : List ℕ) → ms ≡ numbers_of j → ms ≡ kept_numbers refusal ns j
unfolding kept_numbers
kept_new refusal ns j e ms q = rw (eq-eqb refusal 0 e) q

pub kept_old : (refusal : ℕ) (ns : List ℕ) (j : Job) → (refusal ≡ 0 → ⊥) → ns ≡ kept_numbers refusal ns j
unfolding kept_numbers
kept_old refusal ns j n = rw (ne_eqb refusal 0 n)

-- .. by an answer

pub kept_after : (ns : List ℕ) (k : Job) (ms : List ℕ) → ms ≡ numbers_of k → KeptAfter ns ms (Ok k)
unfolding kept_numbers
kept_after ns k ms e j = e

pub kept_refused : (ns : List ℕ) (r : Refusal) → KeptAfter ns ns (Err r)
unfolding kept_numbers
kept_refused ns r j = rw (number_nonzero r)

-- .. whatever job is handed on beside the refusal
pub kept_beside : (ns : List ℕ) (r : Refusal) (k : Job) (ms : List ℕ) → ms ≡ kept_numbers (number r) ns k → KeptAfter ns ms (Err r)
kept_beside ns r k ms e = rw (e ∙ sym (kept_refused ns r k)) (kept_refused ns r)
