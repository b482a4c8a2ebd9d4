-- The ticks of a job as they are lent, and the steps of a stage walked block by block. `f` tells the steps that are ticked.
-- Assumes nothing.
use Rattle.std.specs.Prelude.{Bool, true, not, ◌&&◌, ◌||◌, List, ℕ, zero, suc, ◌+◌, ◌*◌, ◌/◌, ◌%◌, eqb, ltb, get_or}
use Rattle.cells.specs.declared.Axis.{Axis}
use Rattle.cells.specs.declared.Axis.TheVariants.{X, Y, Z}
use Rattle.cutting.specs.Cutting.{Cutting, cuts, intervals, interval}
use Rattle.joiner.specs.Job.{ticks_per_block}
use Rattle.blocks.specs.Blocks.{axis_number}
use Rattle.blocks.specs.declared.Cuts.{Cuts}

-- Step i is ticked. `ticked_told` says that it is the joiner's `ticked`.
unfoldable pub ticked_in : List ℕ → ℕ → Bool
ticked_in ticks i = not (eqb (get_or ticks i 0) 0)

-- The step in this column of each of the first n blocks is ticked.
unfoldable pub ticked_to : (ℕ → Bool) → ℕ → ℕ → Bool
ticked_to f column zero = true
ticked_to f column (suc b) = ticked_to f column b && f (ticks_per_block * b + column)

-- There is a next block along an axis, so b is the lower block of a seam.
unfoldable pub has_next : Cutting → ℕ → Axis → Bool
has_next k b a = ltb (suc (interval k b a)) (intervals (cuts k a))

unfoldable pub seam_ticked : Cutting → (ℕ → Bool) → ℕ → Axis → Bool
seam_ticked k f b a = not (has_next k b a) || f (ticks_per_block * b + axis_number a)

-- Its seams as the lower block are ticked, and those of the first n blocks.
unfoldable pub seams_ticked : Cutting → (ℕ → Bool) → ℕ → Bool
seams_ticked k f b = seam_ticked k f b X && (seam_ticked k f b Y && seam_ticked k f b Z)

-- The same by lent cut lists: whether the seam after interval i, where there is one, is ticked, as step s; and the three of block b.
abbrev pub along : List ℕ → ℕ → List ℕ → ℕ → Bool
along l s c i = not (ltb (suc i) (intervals c)) || ticked_in l s

unfoldable pub block_ticked : Cuts → List ℕ → ℕ → Bool
block_ticked c l b =
    along l (ticks_per_block * b + 1) c.x.now (b % intervals c.x.now) &&
    (along l (ticks_per_block * b + 2) c.y.now (b / intervals c.x.now % intervals c.y.now) && along l (ticks_per_block * b + 3) c.z.now (b / intervals c.x.now / intervals c.y.now))

unfoldable pub seams_ticked_to : Cutting → (ℕ → Bool) → ℕ → Bool
seams_ticked_to k f zero = true
seams_ticked_to k f (suc b) = seams_ticked_to k f b && seams_ticked k f b
