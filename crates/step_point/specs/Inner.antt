-- The tables of a point step, when it is not refused, and what its stores leave.
-- Assumes nothing.
use Rattle.std.specs.Prelude.{◌≡◌, true, false, List, ℕ}
use Rattle.joiner.specs.Job.{Point, Closed, Tables, same_stage}
use Rattle.joiner.specs.Calls.{point}
use Rattle.joiner.specs.Declines.{adds, refusal}
use Rattle.kind_numbers.specs.Numbered.{Numbered}
use Rattle.blocks.specs.declared.Cuts.{Cuts}
use Rattle.job.specs.declared.Job.{Job}
use Rattle.job.specs.JobState.{by_kind, sofar_tally, stage_of, state_by}
use Rattle.job.specs.JobWith.{job_with}
use Rattle.judge.specs.declared.KindLengths.{KindLengths}
use Rattle.job.specs.Lent.{no_tables, point_lent}

-- The tables that a point step is lent. The others go unread.
abbrev pub lent : List ℕ → List ℕ → List ℕ → List ℕ → List ℕ → List ℕ → List ℕ → List ℕ → Tables
lent ticks blocks curves keys rows numbers firsts listed = point_lent no_tables ticks blocks keys rows curves numbers firsts listed

-- The length of a table of points.
abbrev pub point_lengths : ℕ → KindLengths
point_lengths points = record { faces = 0; curves = 0; points = points }

-- The step is not refused, and finds so many points.
pub record Ready (j : Job) (c : Cuts) (t : Tables) (b : ℕ) (m : List ℕ) (points : ℕ) : Type 0 where
  pub none : refusal (state_by j c t) (point b m) ≡ 0
  pub counted : points ≡ adds (state_by j c t) (point b m) Point

-- The job with so many points numbered.
abbrev pub with_numbered : Job → ℕ → Job
with_numbered j total = job_with j j.stage (sofar_tally j) (by_kind j.numbered.faces j.numbered.curves total)

-- What holds of all tables with these keys and rows of points.
abbrev pub AnyPoints : List ℕ → List ℕ → (Tables → Type 0) → Type 0
AnyPoints keys rows P = (t : Tables) → t.keys Point ≡ keys → t.rows Point ≡ rows → P t

-- The n points of a closed job are numbered. In any other stage nothing changes.
pub record Closes (j : Job) (n : ℕ) (keys rows numbers numbers' firsts firsts' listed listed' : List ℕ) (r : Job) : Type 0 where
  pub is : r ≡ with_numbered j r.numbered.points
  pub last : same_stage (stage_of j.stage) Closed ≡ true → AnyPoints keys rows (λ t. Numbered t Point n r.numbered.points numbers numbers' firsts firsts' listed listed')
  pub before : same_stage (stage_of j.stage) Closed ≡ false → (r.numbered.points ≡ j.numbered.points) × (numbers' ≡ numbers) × (firsts' ≡ firsts) × (listed' ≡ listed)
