-- The ways of the stores of a crossing step, over plain lists and numbers.
-- Assumes nothing.
use mathlib.Core.List.{List}
use Prim.Native.Nat.{ℕ, ◌+◌, ◌≤◌}
use native.Mathlib.Omega.{arith}
use Rattle.union_find.specs.Links.{root}
use Rattle.cutting.specs.Cutting.{Cutting}
use Rattle.joiner.specs.Job as joiner
use Rattle.joiner.specs.Stages.{crossing_step}
use Rattle.pass_cross.specs.CrossEdges.{cross_edges, Trays, Crossed}
use Rattle.blocks.specs.Blocks.{AnyExtents, Tells}
use Rattle.blocks.specs.declared.Block.{Block}
use Rattle.blocks.specs.declared.Cuts.{Cuts}
use Rattle.job.specs.declared.Job.{Job}
use Rattle.job.specs.JobState.{job_by, no_counts}
use Rattle.stages.specs.Advanced.{Advanced}
use Rattle.judge.specs.Judge.{entry_of}
use Rattle.store_cross.specs.Stores.{JoinReady, TalliesFit, CurvesJoined}

-- what the tick requires of the tallies
pub tick_sums : (j : Job) (c : Cuts) → TalliesFit (job_by j c)
    → (j.sofar.faces + 0 ≤ j.entries.faces) × (j.sofar.curves + 0 ≤ j.entries.curves) × (j.sofar.points + 0 ≤ j.entries.points)
tick_sums j c T = (omega (arith, T.each joiner.Face), omega (arith, T.each joiner.Curve), omega (arith, T.each joiner.Point))

module _ (j : Job) (c : Cuts) (ticks table faces curves : List ℕ) (b : ℕ) (m : List ℕ) (r : Block) (T : AnyExtents c (λ k. Tells k b r)) where
  abbrev cut_as : Cutting
  cut_as = (job_by j c).told.cutting

  -- what the joins require
  pub cross_trays : JoinReady cut_as ticks table faces curves b m → Trays r.size m 1 faces (entry_of table b).face_from curves (entry_of table b).curve_from
  cross_trays R = rw ((T cut_as.extents).size) R.trays

  pub joined_by : (ticks' faces' curves' : List ℕ) (q : Job) → Advanced j c ticks ticks' (crossing_step b) no_counts q
      → Crossed faces faces' curves curves' (cross_edges r.size m 1 (root faces) (entry_of table b).face_from (entry_of table b).curve_from)
      → CurvesJoined j c ticks ticks' table faces faces' curves curves' b m q
  joined_by ticks' faces' curves' q A C = record { moved = A; crossed = rw (← (T cut_as.extents).size) C }
