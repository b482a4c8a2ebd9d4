-- The calls after an opening, with what each brings, what is answered, and the tests that the service and the day book share.
-- Assumes nothing.
use Rattle.std.specs.Prelude.{Bool, true, false, not, cond, ◌&&◌, ◌||◌, List, ℕ, ◌+◌, eqb, leb, ltb, get_or, length}
use Rattle.lists.specs.Lists.{some_of}
use Rattle.closure.specs.Joined.{Edge, edge}
use Rattle.cells.specs.declared.Triple.{Triple}
use Rattle.cells.specs.Grid.{cells, order}
use Rattle.cutting.specs.Cutting.{Cutting, blocks, block_extents, seam}
use Rattle.joiner.specs.Job.{Kind, Face, Curve, Point, Stage, Enrol, Seam, Crossing, Points, Closed}
use Rattle.joiner.specs.Stages.{has_cell, shared, enrol_step, seam_step, crossing_step, point_step}

-- The calls after an opening: four steps, and two readings of a closed job.
pub data Call : Type 0 where
  -- the steps: a block and its map; a seam, of both
  enrol : ℕ → List ℕ → Call
  join : ℕ → ℕ → List ℕ → List ℕ → Call
  cross : ℕ → List ℕ → Call
  point : ℕ → List ℕ → Call
  -- the readings: a block, its map and a cell by its place in the volume; a component by kind and number
  look : ℕ → List ℕ → Triple → Call
  reading : Kind → ℕ → Call

-- The number of the refusal, 0 for none; what a look gives; the part that a row reading gives.
pub record Answer : Type 0 where
  pub refusal : ℕ
  pub value : ℕ
  pub part : List ℕ

-- An answer by its fields.
abbrev pub answer : ℕ → ℕ → List ℕ → Answer
answer n v p = record { refusal = n; value = v; part = p }

-- The stage that a call belongs to.
abbrev pub stage_of : Call → Stage
stage_of (enrol b m) = Enrol
stage_of (join b c m n) = Seam
stage_of (cross b m) = Crossing
stage_of (point b m) = Points
stage_of (look b m c) = Closed
stage_of (reading κ n) = Closed

-- The step that a call is. A reading is none.
abbrev pub repeated : Cutting → (ℕ → Bool) → Call → Bool
repeated k is_ticked (enrol b m) = is_ticked (enrol_step b)
repeated k is_ticked (join b c m n) = is_ticked (seam_step k (edge b c))
repeated k is_ticked (cross b m) = is_ticked (crossing_step b)
repeated k is_ticked (point b m) = is_ticked (point_step b)
repeated k is_ticked (look b m c) = false
repeated k is_ticked (reading κ n) = false

-- 4 denies it: there is such a block, the pair is a seam, the cell is in the block, the component number is none of 0 and too large.
abbrev pub placed : Cutting → (Kind → ℕ) → Call → Bool
placed k many (enrol b m) = ltb b (blocks k)
placed k many (join b c m n) = seam k b c
placed k many (cross b m) = ltb b (blocks k)
placed k many (point b m) = ltb b (blocks k)
placed k many (look b m c) = ltb b (blocks k) && has_cell k b c
placed k many (reading κ n) = ltb 0 n && leb n (many κ)

-- 6 denies it: a map's length is its block's cells.
abbrev pub maps_fit : Cutting → Call → Bool
maps_fit k (enrol b m) = eqb (length m) (cells (block_extents k b))
maps_fit k (join b c m n) = eqb (length m) (cells (block_extents k b)) && eqb (length n) (cells (block_extents k c))
maps_fit k (cross b m) = eqb (length m) (cells (block_extents k b))
maps_fit k (point b m) = eqb (length m) (cells (block_extents k b))
maps_fit k (look b m c) = eqb (length m) (cells (block_extents k b))
maps_fit k (reading κ n) = true

-- 9: "on a seam a code differs, or a cell is active in one block only".
unfoldable pub differs : Triple → List ℕ → List ℕ → Edge → Bool
differs e m n d =
    cond (eqb (order e d.from) 3) (not (eqb (get_or m d.from 0) (get_or n d.to 0)))
    (not (eqb (cond (eqb (get_or m d.from 0) 0) 0 1) (cond (eqb (get_or n d.to 0) 0) 0 1)))

-- .. in some cell that both blocks of the seam have.
abbrev pub layers_differ : Cutting → Call → Bool
layers_differ k (enrol b m) = false
layers_differ k (join b c m n) = some_of (differs (block_extents k b) m n) (shared k b c)
layers_differ k (cross b m) = false
layers_differ k (point b m) = false
layers_differ k (look b m c) = false
layers_differ k (reading κ n) = false

-- 10: with `more` of a kind its tally would exceed its table's entries. "A full table that is just reached is accepted."
unfoldable pub overfull : (Kind → ℕ) → (Kind → ℕ) → (Kind → ℕ) → Kind → Bool
overfull entries sofar more κ = ltb (entries κ) (sofar κ + more κ)

-- .. for some kind.
unfoldable pub full : (Kind → ℕ) → (Kind → ℕ) → (Kind → ℕ) → Bool
full entries sofar more = overfull entries sofar more Face || (overfull entries sofar more Curve || overfull entries sofar more Point)
