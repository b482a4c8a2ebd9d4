-- What the stores of a crossing step require, and what they leave.
-- Assumes nothing.
use Rattle.std.specs.Prelude.{List, ℕ, ◌*◌, ◌≤◌, ◌<◌, length}
use Rattle.closure.specs.Joined.{Edge}
use Rattle.union_find.specs.Links.{root}
use Rattle.cutting.specs.Cutting.{Cutting, block_extents, FewBlocks}
use Rattle.joiner.specs.Job.{Curve}
use Rattle.joiner.specs.Job as joiner
use Rattle.joiner.specs.Stages.{crossing_step}
use Rattle.pass_cross.specs.CrossEdges.{cross_edges, Trays, Crossed}
use Rattle.kind_numbers.specs.Numbered.{Numbered, AnyCopied, AnyCurves}
use Rattle.blocks.specs.declared.Cuts.{Cuts}
use Rattle.job.specs.declared.Job.{Job}
use Rattle.job.specs.JobState.{job_by, no_counts}
use Rattle.stages.specs.Advanced.{Advanced}
use Rattle.judge.specs.Judge.{entry_of}
use Rattle.counts.specs.declared.Counts.{Counts}

-- The edges that the crossing of block b joins.
abbrev pub edges_of : Cutting → List ℕ → List ℕ → ℕ → List ℕ → List Edge
edges_of k table links b m = cross_edges (block_extents k b) m 1 (root links) (entry_of table b).face_from (entry_of table b).curve_from

-- What the tick and the joins require, of a job in which no tally changes.
pub record JoinReady (k : Cutting) (ticks table faces curves : List ℕ) (b : ℕ) (m : List ℕ) : Type 0 where
  pub within : crossing_step b < length ticks
  pub few : FewBlocks k.cx k.cy k.cz
  pub trays : Trays (block_extents k b) m 1 faces (entry_of table b).face_from curves (entry_of table b).curve_from

pub record TalliesFit (j : joiner.Job) : Type 0 where
  pub each : (κ : joiner.Kind) → j.sofar κ ≤ j.told.entries κ

-- The step is ticked and the block's curves are joined.
pub record CurvesJoined (j : Job) (c : Cuts) (ticks ticks' table faces faces' curves curves' : List ℕ) (b : ℕ) (m : List ℕ) (r : Job) : Type 0 where
  pub moved : Advanced j c ticks ticks' (crossing_step b) no_counts r
  pub crossed : Crossed faces faces' curves curves' (edges_of (job_by j c).told.cutting table faces b m)

-- n components of a kind with rows of w places have room in tables of these lengths.
pub record KindRoom (w n keys numbers firsts listed : ℕ) : Type 0 where
  pub on_keys : n ≤ keys
  pub on_numbers : n ≤ numbers
  pub on_firsts : n ≤ firsts
  pub on_listed : w * n ≤ listed

-- Faces and curves are numbered, the curves' rows by the faces' new numbers.
pub record BothNumbered (fl cl fk ck fr cr fn fn' cn cn' ff ff' cf cf' fs fs' cs cs' : List ℕ) (faces curves : ℕ) (r : Counts) : Type 0 where
  pub of_faces : AnyCopied fl fk fr 2 (λ t κ. Numbered t κ faces r.faces fn fn' ff ff' fs fs')
  pub of_curves : AnyCurves cl ck cr fn' (λ t. Numbered t Curve curves r.curves cn cn' cf cf' cs cs')
