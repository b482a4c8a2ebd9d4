-- What an accepted readings' step brings, and what it leaves.
-- Assumes nothing.
use Rattle.std.specs.Prelude.{List, ℕ, ◌<◌, length, set, Float}
use Rattle.cutting.specs.Cutting.{Cutting, block_extents}
use Rattle.blocks.specs.declared.Cuts.{Cuts}
use Rattle.job.specs.declared.Job.{Job}
use Rattle.job.specs.JobState.{job_by}
use Rattle.judge.specs.Judge.{entry_of}
use Rattle.totals.specs.Totals.{Taken, sums_with, counts_with}
use Rattle.lowest.specs.Lowest.{starts}
use Rattle.pass_strain.specs.BlockReadings.{brought, block_taken, Whole}
use Rattle.strain_calls.specs.Tables.{TotalTables, total_tables}

-- The cutting of a job with lent cut lists.
abbrev pub cutting_of : Job → Cuts → Cutting
cutting_of j c = (job_by j c).told.cutting

-- What an accepted step brings: lists of the block's sizes, and a place for its tick.
pub record Ready (k : Cutting) (came : List ℕ) (b : ℕ) (m : List ℕ) (values : List Float) (kinds : List ℕ) : Type 0 where
  pub ticks : b < length came
  pub whole : Whole (block_extents k b) m values kinds

-- What the readings of block b add: `block_adds`, by the block table and the final numbers of faces.
unfoldable pub adds_in : Cutting → List ℕ → List ℕ → ℕ → List ℕ → List Float → List ℕ → List Taken
adds_in k table numbers b m values kinds = block_taken (block_extents k b) (starts k b) (brought m numbers (entry_of table b).face_from values kinds)

-- The tables after them: `with_readings`.
unfoldable pub stored_in : Cutting → List ℕ → List ℕ → TotalTables → ℕ → List ℕ → List Float → List ℕ → TotalTables
stored_in k table numbers w b m values kinds =
    let ts : List Taken = adds_in k table numbers b m values kinds in
    total_tables (set w.came b 1) (sums_with w.sums ts) (counts_with w.counts ts)
