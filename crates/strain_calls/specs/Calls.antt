-- The two calls of item 1, with what each brings and is answered, and the tests that the service and the book of readings share.
-- Assumes nothing.
use Rattle.std.specs.Prelude.{Bool, true, false, not, ◌&&◌, List, ℕ, eqb, leb, ltb, length, Float}
use Rattle.lists.specs.Lists.{consecutive, all_of}
use Rattle.cells.specs.Box.{volume}
use Rattle.cells.specs.Grid.{cells}
use Rattle.cutting.specs.Cutting.{Cutting, blocks, block_extents}
use Rattle.joiner.specs.Job.{Stage, Closed, same_stage}
use Rattle.strains.specs.Units.{plus_zero}
use Rattle.totals.specs.Totals.{readings_fit}
use Rattle.totals.specs.declared.Side.{Side}
use Rattle.totals.specs.declared.Totals.{Totals}

-- "Readings come block by block to a closed job": a block, its map, its values and its kind bytes. "For each face the analysts want": a face's number.
pub data StrainCall : Type 0 where
  strain : ℕ → List ℕ → List Float → List ℕ → StrainCall
  total : ℕ → StrainCall

-- The number of the refusal, 0 for none, and the totals that are read.
pub record StrainAnswer : Type 0 where
  pub refusal : ℕ
  pub totals : Totals

-- An answer by its fields.
abbrev pub strain_answer : ℕ → Totals → StrainAnswer
strain_answer n t = record { refusal = n; totals = t }

-- A side with nothing on it: that of a refusal, "every other field 0", and that of the outside (item 4).
abbrev pub no_side : Side
no_side = record { sum = plus_zero; strains = 0; clipped = 0; missing = 0 }

abbrev pub no_totals : Totals
no_totals = record { lower = no_side; higher = no_side }

-- "Once all blocks have come": `come` tells the blocks whose readings have.
unfoldable pub all_come : Cutting → (ℕ → Bool) → Bool
all_come k come = all_of come (consecutive 0 (blocks k))

-- 3 denies it: the job is closed; for a total all blocks have come, "reading earlier is 3".
abbrev pub in_stage : Cutting → Stage → (ℕ → Bool) → StrainCall → Bool
in_stage k s come (strain b m values kinds) = same_stage s Closed
in_stage k s come (total n) = same_stage s Closed && all_come k come

-- 4 denies it: there is such a block, the face's number is none of 0 and too large.
abbrev pub has_place : Cutting → ℕ → StrainCall → Bool
has_place k many (strain b m values kinds) = ltb b (blocks k)
has_place k many (total n) = ltb 0 n && leb n many

-- 5: "a block again".
abbrev pub again : (ℕ → Bool) → StrainCall → Bool
again come (strain b m values kinds) = come b
again come (total n) = false

-- 6 denies it: the map has the block's cells, and the list of values and the list of kind bytes have its voxels.
abbrev pub lists_fit : Cutting → StrainCall → Bool
lists_fit k (strain b m values kinds) =
    eqb (length m) (cells (block_extents k b)) && (eqb (length values) (volume (block_extents k b)) && eqb (length kinds) (volume (block_extents k b)))
lists_fit k (total n) = true

-- 12: "a kind byte is above 2, or a strain or clipped value is no such multiple, is out of range or is no number".
abbrev pub bad_reading : StrainCall → Bool
bad_reading (strain b m values kinds) = not (readings_fit values kinds)
bad_reading (total n) = false
