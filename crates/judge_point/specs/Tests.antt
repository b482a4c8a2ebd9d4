-- The tests of a point step, by the judge and by what it reads besides.
-- Assumes nothing.
use Rattle.std.specs.Prelude.{◌≡◌, Bool, not, cond, List, ℕ, ◌+◌, ltb, length, Result, IfOk}
use Rattle.lists.specs.Lists.{consecutive, all_of}
use Rattle.cells.specs.declared.Triple.{Triple}
use Rattle.cutting.specs.Cutting.{Cutting, block_extents}
use Rattle.joiner.specs.Job.{Curve, Point}
use Rattle.joiner.specs.Job as joiner
use Rattle.joiner.specs.Stages.{point_step}
use Rattle.pass_point.specs.FoundPoints.{found_cells}
use Rattle.refusals.specs.declared.Refusal.{Refusal}
use Rattle.refusals.specs.Refusals.{number_of}
use Rattle.judge.specs.declared.CallName.{CallName}
use Rattle.judge.specs.declared.Lengths.{Lengths}
use Rattle.judge.specs.declared.Entry.{Entry}
use Rattle.judge.specs.Judge.{first_refusal, judged_of, entry_of, number_stands_in}

-- How many points a block of e voxels has, by its entry and the curves' final numbers.
unfoldable pub found_by : Triple → Entry → List ℕ → List ℕ → ℕ
found_by e d curves m = length (found_cells e curves d.curve_from m)

-- The final numbers of so many curves, from a place on, are 1 to `most`: the joiner's `curves_stand`.
unfoldable pub curves_in : List ℕ → ℕ → ℕ → ℕ → Bool
curves_in curves most from count = all_of (number_stands_in curves most) (consecutive from count)

-- The refusals after the judge: a final number of the block's curves is none, or its points have no room.
unfoldable pub late_of : joiner.Job → Triple → Entry → List ℕ → List ℕ → ℕ
late_of j e d curves m =
    cond (not (curves_in curves (j.numbered Curve) d.curve_from d.curves)) 8 (cond (ltb (j.told.entries Point) (j.sofar Point + found_by e d curves m)) 10 0)

-- The points of block b.
unfoldable pub found_of : Cutting → List ℕ → List ℕ → ℕ → List ℕ → ℕ
found_of k table curves b m = found_by (block_extents k b) (entry_of table b) curves m

-- The refusal, 0 for none: the joiner's `refusal`.
unfoldable pub refusal_of : joiner.Job → List ℕ → Lengths → List ℕ → List ℕ → ℕ → List ℕ → ℕ
refusal_of j ticks z table curves b m =
    first_refusal (judged_of j ticks table CallName.Points z b (point_step b) m) (late_of j (block_extents j.told.cutting b) (entry_of table b) curves m)

-- An answer tells the refusal, and where there is none the points.
pub record Plans (number found : ℕ) (r : Result ℕ Refusal) : Type 0 where
  pub told : number_of r ≡ number
  pub counted : IfOk r (λ n. n ≡ found)
