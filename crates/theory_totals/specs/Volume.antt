-- What all blocks of a volume add to the totals, said without any order of blocks (document 02, item 1).
-- Assumes nothing.
use Rattle.std.specs.Prelude.{List, [], ◌∷◌, ℕ, Float}
use Rattle.cells.specs.Box.{place}
use Rattle.cells.specs.declared.Triple.{Triple}
use Rattle.cells.specs.Grid.{sides}
use Rattle.labels.specs.Components.{of_order}
use Rattle.cutting.specs.Cutting.{Cutting, block_extents}
use Rattle.joiner.specs.Job.{Face, Tables, from_of}
use Rattle.joiner.specs.Stages.{local, lowest_block}
use Rattle.totals.specs.Totals.{Taken, sums_with, counts_with}
use Rattle.lowest.specs.Lowest.{starts}
use Rattle.strain_calls.specs.Adding.{gathered}
use Rattle.pass_strain.specs.BlockReadings.{Brought, brought, cell_taken, block_taken}

-- What block b adds, if it brings g b.
unfoldable pub taken_by : Cutting → (ℕ → Brought) → ℕ → List Taken
taken_by k g b = block_taken (block_extents k b) (starts k b) (g b)

-- What is taken at face cell t of the volume: "a face cell in an overlap counts once, with the lowest-numbered block that has it".
unfoldable pub taken_at : Cutting → (ℕ → Brought) → ℕ → List Taken
taken_at k g t =
    let c : Triple = place (sides k.extents) t in
    let b : ℕ = lowest_block k c in
    cell_taken (block_extents k b) (starts k b) (g b) (local k b c)

-- What is taken at all face cells of the volume, in cell order.
unfoldable pub volume_taken : Cutting → (ℕ → Brought) → List Taken
volume_taken k g = gathered (taken_at k g) (of_order k.extents 2)

-- The sums after the readings of some blocks have come, in this order.
unfoldable pub sums_over : Cutting → (ℕ → Brought) → List Float → List ℕ → List Float
sums_over k g sums [] = sums
sums_over k g sums (b ∷ bs) = sums_over k g (sums_with sums (taken_by k g b)) bs

-- The counts after the readings of some blocks have come, in this order.
unfoldable pub counts_over : Cutting → (ℕ → Brought) → List ℕ → List ℕ → List ℕ
counts_over k g counts [] = counts
counts_over k g counts (b ∷ bs) = counts_over k g (counts_with counts (taken_by k g b)) bs

-- What block b brings to a closed job with these tables: its map, and the readings that came for it.
abbrev pub brought_to : Tables → (ℕ → List ℕ) → (ℕ → List Float) → (ℕ → List ℕ) → ℕ → Brought
brought_to t own values kinds b = brought (own b) (t.numbers Face) (from_of t Face b) (values b) (kinds b)
