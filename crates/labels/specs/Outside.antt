-- Space around the core (document 02, item 4): "The segmenter now gives 0 to voxels outside the specimen." What the numbering is where a code is 0.
-- Assumes nothing.
use Rattle.std.specs.Prelude.{◌≡◌, ◌⊎◌, ◌≢◌, List, [], ◌∷◌, map, ℕ, ◌<◌, get_or}
use Rattle.lists.specs.Lists.{nonzero}
use Rattle.cells.specs.declared.Triple.{Triple}
use Rattle.cells.specs.Grid.{cells, order, upper_neighbours, voxel}
use Rattle.cells.specs.Row.{row_of, row}
use Rattle.labels.specs.Number.{labels}

-- The codes of the two voxels beside a face cell.
unfoldable pub codes_beside : Triple → List ℕ → ℕ → List ℕ
codes_beside e codes p = map (λ q. get_or codes (voxel e q) 0) (upper_neighbours e p)

-- The segments beside a face cell: a voxel belongs to the segment of its code, "a zero voxel .. to no segment".
unfoldable pub segments_beside : Triple → List ℕ → ℕ → List ℕ
segments_beside e codes p = nonzero (codes_beside e codes p)

-- What a zero voxel is, and what a face cell beside it.
pub record Outside (e : Triple) (codes : List ℕ) : Type 0 where
  -- "A zero voxel is inactive .."
  pub voxel_inactive : (q : ℕ) → q < cells e → order e q ≡ 3 → get_or codes (voxel e q) 0 ≡ 0 → get_or (labels e codes) q 0 ≡ 0
  -- ".. and belongs to no segment": the row of a face cell is that of the segments beside it
  pub no_segment : (p : ℕ) → p < cells e → order e p ≡ 2 → row e (labels e codes) p ≡ row_of (segments_beside e codes p)
  -- "A face cell between code 5 and outside is active with the row 5 0": any code but 0, on either side
  pub face_active : (p a : ℕ) → p < cells e → order e p ≡ 2 → a ≢ 0 → (codes_beside e codes p ≡ a ∷ 0 ∷ []) ⊎ (codes_beside e codes p ≡ 0 ∷ a ∷ [])
      → (get_or (labels e codes) p 0 ≢ 0) × (row e (labels e codes) p ≡ a ∷ 0 ∷ 0 ∷ 0 ∷ 0 ∷ 0 ∷ [])
  -- ".. between two zeros it is inactive"
  pub face_inactive : (p : ℕ) → p < cells e → order e p ≡ 2 → codes_beside e codes p ≡ 0 ∷ 0 ∷ [] → get_or (labels e codes) p 0 ≡ 0
