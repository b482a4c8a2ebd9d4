-- The tests of an enrolment after those by lengths. Assumes nothing.
use Rattle.std.specs.Prelude.{◌≡◌, not, cond, List, ℕ, length, Result, IfOk}
use Rattle.labels.specs.Components.{largest}
use Rattle.cutting.specs.Cutting.{block_extents}
use Rattle.joiner.specs.Job.{Kind}
use Rattle.joiner.specs.Job as joiner
use Rattle.joiner.specs.Stages.{enrol_step}
use Rattle.joiner.specs.Calls.{full}
use Rattle.joiner.specs.Declines.{tallies_fit}
use Rattle.job.specs.JobState.{by_kind}
use Rattle.judge.specs.declared.CallName.{CallName}
use Rattle.judge.specs.declared.Lengths.{Lengths}
use Rattle.judge.specs.Judge.{first_refusal, lengths_judged}
use Rattle.counts.specs.declared.Counts.{Counts}
use Rattle.refusals.specs.declared.Refusal.{Refusal}
use Rattle.refusals.specs.Refusals.{number_of}

-- The lengths of the tables that an enrolment is lent, 0 for the others.
abbrev pub lent_lengths : ℕ → ℕ → ℕ → ℕ → ℕ → ℕ → ℕ → ℕ → Lengths
lent_lengths ticks blocks face_links curve_links face_keys curve_keys face_rows curve_rows =
    record {
      ticks = ticks;
      blocks = blocks;
      links = record { faces = face_links; curves = curve_links; points = 0 };
      keys = record { faces = face_keys; curves = curve_keys; points = 0 };
      rows = record { faces = face_rows; curves = curve_rows; points = 0 };
      numbers = record { faces = 0; curves = 0; points = 0 };
      firsts = record { faces = 0; curves = 0; points = 0 };
      listed = record { faces = 0; curves = 0; points = 0 };
    }

-- The refusals from 8 on: `more` has the map's largest numbers.
unfoldable pub late_of : joiner.Job → (Kind → ℕ) → ℕ
late_of j more = cond (not (tallies_fit j)) 8 (cond (full j.told.entries j.sofar more) 10 0)

-- All: the joiner's `refusal`.
unfoldable pub refusal_of : joiner.Job → List ℕ → Lengths → ℕ → List ℕ → ℕ
refusal_of j ticks z b m =
    first_refusal (lengths_judged j ticks CallName.Enrol z b (enrol_step b) (length m))
    (late_of j (by_kind (largest (block_extents j.told.cutting b) m 2) (largest (block_extents j.told.cutting b) m 1) 0))

-- The block's largest numbers.
pub record Planned (j : joiner.Job) (b : ℕ) (m : List ℕ) (r : Counts) : Type 0 where
  pub faces : r.faces ≡ largest (block_extents j.told.cutting b) m 2
  pub curves : r.curves ≡ largest (block_extents j.told.cutting b) m 1
  pub points : r.points ≡ largest (block_extents j.told.cutting b) m 0

-- What the tests answer: the refusal, and the block's largest numbers where there is none.
pub record Judged (j : joiner.Job) (ticks : List ℕ) (z : Lengths) (b : ℕ) (m : List ℕ) (r : Result Counts Refusal) : Type 0 where
  pub told : number_of r ≡ refusal_of j ticks z b m
  pub plan : IfOk r (Planned j b m)
