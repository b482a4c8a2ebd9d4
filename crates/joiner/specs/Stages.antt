-- Blocks and cells, seams, steps and stages (document 01, "Cutting and joining").
-- Assumes nothing.
use Rattle.std.specs.Prelude.{Bool, cond, ◌&&◌, List, [], ◌∷◌, ◌++◌, map, ℕ, ◌+◌, ◌-◌, ◌*◌, eqb, leb, ltb, get_or, length}
use Rattle.lists.specs.Lists.{consecutive, tabulate, keep, all_of}
use Rattle.closure.specs.Joined.{Edge, edge}
use Rattle.cells.specs.Box.{coord, each, volume, index, place}
use Rattle.cells.specs.declared.Axis.{Axis}
use Rattle.cells.specs.declared.Axis.TheVariants.{X, Y, Z}
use Rattle.cells.specs.declared.Triple.{Triple}
use Rattle.cells.specs.Grid.{sides, cells, voxel_cell}
use Rattle.cutting.specs.Cutting.{Cutting, blocks, block_extents, origin, embed, follows, seam}
use Rattle.joiner.specs.Job.{Stage, Enrol, Seam, Crossing, Points, Closed, ticks_per_block}

-- The cell at a place of the volume is one of block b's, and its position there.
unfoldable pub has_on : Cutting → ℕ → Triple → Axis → Bool
has_on k b c a = leb (2 * coord (origin k b) a) (coord c a) && ltb (coord c a) (2 * coord (origin k b) a + coord (sides (block_extents k b)) a)

-- .. on every axis.
unfoldable pub has_cell : Cutting → ℕ → Triple → Bool
has_cell k b c = has_on k b c X && (has_on k b c Y && has_on k b c Z)

-- Its position in the block.
unfoldable pub local : Cutting → ℕ → Triple → ℕ
local k b c = index (sides (block_extents k b)) (each (λ a. coord c a - 2 * coord (origin k b) a))

-- The cells that blocks b and c share: each by its positions in b and in c.
unfoldable pub products : List ℕ → List ℕ → List Edge
products [] ys = []
products (x ∷ xs) ys = map (edge x) ys ++ products xs ys

-- .. those at one position of the volume.
unfoldable pub shared : Cutting → ℕ → ℕ → List Edge
shared k b c =
    keep (λ d. eqb (embed k b d.from) (embed k c d.to)) (products (consecutive 0 (cells (block_extents k b))) (consecutive 0 (cells (block_extents k c))))

-- The seams.
unfoldable pub seams : Cutting → List Edge
seams k = keep (λ d. seam k d.from d.to) (products (consecutive 0 (blocks k)) (consecutive 0 (blocks k)))

-- Steps have numbers, `ticks_per_block` for each block: its enrolment (0), its seams as the lower block along x, y, z (`seam_axis`), its crossing, its point step.
abbrev pub enrol_step : ℕ → ℕ
enrol_step b = ticks_per_block * b

-- The axis of the seam of b and c, as 1, 2 or 3.
unfoldable pub seam_axis : Cutting → ℕ → ℕ → ℕ
seam_axis k b c = cond (follows k b c X) 1 (cond (follows k b c Y) 2 3)

-- A seam is a step of its lower block.
unfoldable pub seam_step : Cutting → Edge → ℕ
seam_step k d = ticks_per_block * d.from + seam_axis k d.from d.to

-- The crossing of block b.
abbrev pub crossing_tick : ℕ
crossing_tick = 4

abbrev pub crossing_step : ℕ → ℕ
crossing_step b = ticks_per_block * b + crossing_tick

-- The point step of block b.
abbrev pub point_tick : ℕ
point_tick = 5

abbrev pub point_step : ℕ → ℕ
point_step b = ticks_per_block * b + point_tick

-- The steps of a stage: "each block once", "each seam once".
unfoldable pub steps_of : Cutting → Stage → List ℕ
steps_of k Enrol = map enrol_step (consecutive 0 (blocks k))
steps_of k Seam = map (seam_step k) (seams k)
steps_of k Crossing = map crossing_step (consecutive 0 (blocks k))
steps_of k Points = map point_step (consecutive 0 (blocks k))
steps_of k Closed = []

-- "A stage without steps is passed over": only Seam can be one.
unfoldable pub next_stage : Cutting → Stage → Stage
next_stage k Enrol = cond (eqb (length (seams k)) 0) Crossing Seam
next_stage k Seam = Crossing
next_stage k Crossing = Points
next_stage k Points = Closed
next_stage k Closed = Closed

-- "The next begins when the last step of the one before is done." `is_ticked` tells the steps that are done.
unfoldable pub finished : Cutting → (ℕ → Bool) → Stage → Bool
finished k is_ticked s = all_of is_ticked (steps_of k s)

-- The stage after a step: moved on if its steps are all done.
unfoldable pub next_after : Cutting → (ℕ → Bool) → Stage → Stage
next_after k is_ticked s = cond (finished k is_ticked s) (next_stage k s) s

-- The lowest block that has a cell, and the codes of a cut volume: each voxel's out of the map of that block.
unfoldable pub lowest_block : Cutting → Triple → ℕ
lowest_block k c = get_or (keep (λ b. has_cell k b c) (consecutive 0 (blocks k))) 0 0

-- The code at a voxel's cell, by the map of the lowest block that has it.
unfoldable pub code_in : Cutting → (ℕ → List ℕ) → Triple → ℕ
code_in k maps c = get_or (maps (lowest_block k c)) (local k (lowest_block k c) c) 0

-- "The uncut volume has the codes of those maps."
unfoldable pub codes_of : Cutting → (ℕ → List ℕ) → List ℕ
codes_of k maps = tabulate (volume k.extents) (λ v. code_in k maps (place (sides k.extents) (voxel_cell k.extents v)))
