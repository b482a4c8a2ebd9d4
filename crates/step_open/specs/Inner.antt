-- The tests of an opening by the lengths of the tables.
-- Assumes nothing.
use Rattle.std.specs.Prelude.{Bool, not, cond, ◌&&◌, ℕ, Result, Ok, Err}
use Rattle.cells.specs.Extents.{off_size}
use Rattle.cutting.specs.Cutting.{blocks, good_cut}
use Rattle.joiner.specs.Job.{Kind, Face, Told, lengths_fit}
use Rattle.job.specs.declared.Job.{Job}
use Rattle.job.specs.JobState.{fresh_job, no_counts, total_lengths}
use Rattle.judge.specs.declared.CallName.{CallName}
use Rattle.judge.specs.declared.KindLengths.{KindLengths}
use Rattle.judge.specs.declared.Lengths.{Lengths}
use Rattle.refusals.specs.declared.Refusal.{Refusal}
use Rattle.judge.specs.Judge.{lent_by}

-- 6 denies it: `lengths_fit` of the joiner's `all_trays`, and of `total_trays`.
unfoldable pub tables_fit : ℕ → (Kind → ℕ) → Lengths → ℕ → ℕ → ℕ → Bool
tables_fit b n z came sums counts = lengths_fit (lent_by CallName.Open b n z) && lengths_fit (total_lengths b (n Face) came sums counts)

-- The refusal, 0 for none: `opening_refusal`.
unfoldable pub refusal_of : Told → Lengths → ℕ → ℕ → ℕ → ℕ
refusal_of o z came sums counts =
    cond (off_size 1024 o.cutting.extents) 1
    (cond (not (good_cut o.cutting)) 2 (cond (not (tables_fit (blocks o.cutting) o.entries z came sums counts)) 6 0))

-- The lengths of the tables of one sort.
abbrev pub kinds_of : ℕ → ℕ → ℕ → KindLengths
kinds_of faces curves points = record { faces = faces; curves = curves; points = points }

-- The job of an opening's answer: every field 0 where it is refused.
abbrev pub job_opened : Result Job Refusal → Job
job_opened (Ok j) = j
job_opened (Err r) = fresh_job 0 0 0 no_counts
