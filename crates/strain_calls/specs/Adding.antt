-- What the readings of a block add to the totals (document 02, item 1): a list of readings, each for a side of a face, in cell order.
-- Assumes nothing.
use Rattle.std.specs.Prelude.{Bool, cond, List, [], ◌∷◌, ◌++◌, ℕ, eqb, get_or, Float}
use Rattle.lists.specs.Lists.{keep}
use Rattle.cells.specs.Box.{place}
use Rattle.cells.specs.declared.Triple.{Triple}
use Rattle.cells.specs.Grid.{sides, upper_neighbours, voxel}
use Rattle.cells.specs.Row.{row}
use Rattle.labels.specs.Components.{of_order}
use Rattle.cutting.specs.Cutting.{Cutting, block_extents, embed}
use Rattle.joiner.specs.Job.{Face, Tables, State}
use Rattle.joiner.specs.Stages.{lowest_block}
use Rattle.joiner.specs.Declines.{final_of}
use Rattle.strains.specs.declared.Reading.{Reading}
use Rattle.totals.specs.Totals.{Taken, taken, slot_of, reading_at}

-- The lists of f at each entry, one after the other.
unfoldable pub gathered {ℓ} : {A : Type ℓ} → (ℕ → List A) → List ℕ → List A
gathered f [] = []
gathered f (p ∷ ps) = f p ++ gathered f ps

-- The reading x of a voxel of number u, at a cell of face n whose row begins with `low` and `high`: "on its lower-code side and on its higher-code side".
-- A voxel of number 0 is on neither.
unfoldable pub voxel_taken : ℕ → ℕ → ℕ → ℕ → Reading → List Taken
voxel_taken n low high u x =
    cond (eqb u 0) [] (cond (eqb u low) (taken (slot_of n 0) x ∷ []) (cond (eqb u high) (taken (slot_of n 1) x ∷ []) []))

-- The readings of the voxels at cell p of face n, but for one that is outside.
unfoldable pub face_taken : Triple → List ℕ → List Float → List ℕ → ℕ → ℕ → List Taken
face_taken e m values kinds n p =
    gathered (λ q. voxel_taken n (get_or (row e m p) 0 0) (get_or (row e m p) 1 0) (get_or m q 0) (reading_at values kinds (voxel e q))) (upper_neighbours e p)

-- Block b is the lowest-numbered one that has its cell p.
unfoldable pub is_lowest : Cutting → ℕ → ℕ → Bool
is_lowest k b p = eqb (lowest_block k (place (sides k.extents) (embed k b p))) b

-- "A face cell in an overlap counts once, with the lowest-numbered block that has it": the face cells that count with block b.
unfoldable pub counted_cells : Cutting → ℕ → List ℕ
counted_cells k b = keep (is_lowest k b) (of_order (block_extents k b) 2)

-- What cell p of block b adds: where it shows a face, the readings of its voxels, each on its side of that face.
unfoldable pub cell_adds : Cutting → Tables → ℕ → List ℕ → List Float → List ℕ → ℕ → List Taken
cell_adds k t b m values kinds p =
    let n : ℕ = final_of t Face b (get_or m p 0) in
    cond (eqb n 0) [] (face_taken (block_extents k b) m values kinds n p)

-- What the readings of block b add, in cell order.
unfoldable pub block_adds : State → ℕ → List ℕ → List Float → List ℕ → List Taken
block_adds s b m values kinds = gathered (cell_adds s.job.told.cutting s.tables b m values kinds) (counted_cells s.job.told.cutting b)
