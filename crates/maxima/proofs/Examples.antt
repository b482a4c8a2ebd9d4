-- Worked examples: the largest extents, refused ones, and three blocks worked out by the definitions.
-- Assumes nothing.
use mathlib.Core.Path.{◌≡◌, refl}
use mathlib.Core.List.{List, [], ◌∷◌, map}
use Prim.Native.Nat.{ℕ}
use Rattle.lists.specs.Lists.{consecutive, tabulate}
use Rattle.closure.specs.Joined.{merge_ids, join_classes, joins, rep}
use Rattle.closure.specs.Numbered.{count_below, leader, number_by, label}
use Rattle.refusals.specs.Refusals.{number, table, first, given_by, stands_in}
use Rattle.cells.specs.Box.{triple, stride, volume, index, place}
use Rattle.cells.specs.declared.Triple.{Triple}
use Rattle.cells.specs.Extents.{is_extent, off_size}
use Rattle.cells.specs.Grid.{sides, cells, parity, order, along, upper_neighbours, voxel}
use Rattle.cells.specs.Row.{row_of, occupied, row, active}
use Rattle.labels.specs.Number.{pairs, alike, edges_at, order_below, edges, active_of, number as number_named, numbered_at, numbered, code_at, map_down, labels}
use Rattle.labels.specs.Components.{of_order, largest}
use Rattle.labels.specs.OrderCounts.{cells_of_order}
use Rattle.maxima.specs.Maxima.{counted_codes, declines, refusal_of, accepted, refused, most_components}

pub largest_extents : most_components (triple 64 64 64) ≡ record { refusal = 0; faces = 774144; curves = 762048; points = 250047 }
unfolding is_extent off_size given_by first table number stands_in declines refusal_of cells_of_order accepted most_components
largest_extents = refl

pub refused_extents : map most_components (triple 0 1 1 ∷ triple 1 65 1 ∷ triple 64 64 65535 ∷ [])
    ≡ record { refusal = 1; faces = 0; curves = 0; points = 0 } ∷ record { refusal = 1; faces = 0; curves = 0; points = 0 } ∷ record { refusal = 1; faces = 0; curves = 0; points = 0 } ∷ []
unfolding is_extent off_size given_by first table number stands_in declines refusal_of refused most_components
refused_extents = refl

-- The counts of faces, curves and points.
abbrev counts_of : Triple → List ℕ → List ℕ
counts_of e codes = map (largest e (labels e codes)) (2 ∷ 1 ∷ 0 ∷ [])

-- 2×2×2 with the codes 1 to 8, and with 0 in the place of the 8, reaches all three numbers. Two zeros are too many: 2×1×1 has then no face.
pub counts_listed : counts_of (triple 2 2 2) (counted_codes (triple 2 2 2)) ∷ counts_of (triple 2 2 2) (1 ∷ 2 ∷ 3 ∷ 4 ∷ 5 ∷ 6 ∷ 7 ∷ 0 ∷ []) ∷ counts_of (triple 2 1 1) (0 ∷ 0 ∷ []) ∷ []
    ≡ (12 ∷ 6 ∷ 1 ∷ []) ∷ (12 ∷ 6 ∷ 1 ∷ []) ∷ (0 ∷ 0 ∷ 0 ∷ []) ∷ []
unfolding consecutive tabulate merge_ids join_classes joins rep count_below leader number_by label stride volume index place sides cells parity order along upper_neighbours voxel row_of occupied row active pairs alike edges_at order_below edges active_of number_named numbered_at numbered code_at map_down labels of_order largest counted_codes
counts_listed = refl
