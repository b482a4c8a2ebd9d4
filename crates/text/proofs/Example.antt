-- The example that comes with the listing, and a volume that is all outside, computed.
-- Assumes nothing.
use mathlib.Core.Path.{◌≡◌, refl}
use mathlib.Core.List.{List, [], ◌∷◌, ◌++◌}
use Prim.Native.Nat.{ℕ}
use Rattle.lists.specs.Lists.{consecutive, tabulate}
use Rattle.decimals.specs.Decimals.{digit, decimal_in, decimal_digits}
use Rattle.closure.specs.Joined.{merge_ids, join_classes, joins, rep}
use Rattle.closure.specs.Numbered.{count_below, leader, number_by, label}
use Rattle.refusals.specs.Refusals.{number as refusal_number, table, first, given_by, stands_in}
use Rattle.cells.specs.Box.{stride, volume, index, place}
use Rattle.cells.specs.Extents.{is_extent, off_size}
use Rattle.cells.specs.Grid.{sides, cells, parity, order, along, upper_neighbours, voxel}
use Rattle.cells.specs.Row.{row_of, occupied, row, active}
use Rattle.labels.specs.Number.{pairs, alike, edges_at, order_below, edges, active_of, number, numbered_at, numbered, code_at, map_down, labels}
use Rattle.labels.specs.Components.{of_order, largest, component, first_cell, row_at_first, component_row}
use Rattle.text.specs.Words.{gap, ended, words_from, words_of, all_digits, value_from, spelled, is_number}
use Rattle.text.specs.Request.{numbers, word, readable, extents_in, codes_in, formed, declines_text, text_refusal, asked_extents, asked_codes}
use Rattle.text.specs.Listing.{spaced, letter, width, coordinates, line, lines_for, lines_of, heading, listing, refused_line, printed}

-- `2 2 1 1 1 2 3` and a line end.
unfoldable pub example : List ℕ
example = 50 ∷ 32 ∷ 50 ∷ 32 ∷ 49 ∷ 32 ∷ 49 ∷ 32 ∷ 49 ∷ 32 ∷ 50 ∷ 32 ∷ 51 ∷ 10 ∷ []

-- The five lines given there.
pub example_printed : printed example ≡
    (102 ∷ 97 ∷ 99 ∷ 101 ∷ 115 ∷ 32 ∷ 51 ∷ 32 ∷ 99 ∷ 117 ∷ 114 ∷ 118 ∷ 101 ∷ 115 ∷ 32 ∷ 49 ∷ 32 ∷ 112 ∷ 111 ∷ 105 ∷ 110 ∷ 116 ∷ 115 ∷ 32 ∷ 48 ∷ 10 ∷ []) ++
    (102 ∷ 32 ∷ 49 ∷ 32 ∷ 48 ∷ 32 ∷ 49 ∷ 32 ∷ 48 ∷ 32 ∷ 49 ∷ 32 ∷ 50 ∷ 10 ∷ []) ++
    (102 ∷ 32 ∷ 50 ∷ 32 ∷ 50 ∷ 32 ∷ 49 ∷ 32 ∷ 48 ∷ 32 ∷ 49 ∷ 32 ∷ 51 ∷ 10 ∷ []) ++
    (102 ∷ 32 ∷ 51 ∷ 32 ∷ 49 ∷ 32 ∷ 50 ∷ 32 ∷ 48 ∷ 32 ∷ 50 ∷ 32 ∷ 51 ∷ 10 ∷ []) ++
    (99 ∷ 32 ∷ 49 ∷ 32 ∷ 49 ∷ 32 ∷ 49 ∷ 32 ∷ 48 ∷ 32 ∷ 49 ∷ 32 ∷ 50 ∷ 32 ∷ 51 ∷ 32 ∷ 48 ∷ 10 ∷ [])
unfolding consecutive tabulate merge_ids join_classes joins rep count_below leader number_by label refusal_number table first given_by stands_in stride volume index place is_extent off_size sides cells parity order along upper_neighbours voxel row_of occupied row active pairs alike edges_at order_below edges active_of number numbered_at numbered code_at map_down labels of_order largest component first_cell row_at_first component_row gap digit ended words_from words_of all_digits value_from spelled is_number numbers word readable extents_in codes_in formed declines_text text_refusal asked_extents asked_codes decimal_in decimal_digits spaced letter width coordinates line lines_for lines_of heading listing refused_line printed example
example_printed = refl

-- `1 1 1 0` and a line end.
unfoldable pub outside : List ℕ
outside = 49 ∷ 32 ∷ 49 ∷ 32 ∷ 49 ∷ 32 ∷ 48 ∷ 10 ∷ []

-- A listing without components: `faces 0 curves 0 points 0`.
pub outside_printed : printed outside ≡
    102 ∷ 97 ∷ 99 ∷ 101 ∷ 115 ∷ 32 ∷ 48 ∷ 32 ∷ 99 ∷ 117 ∷ 114 ∷ 118 ∷ 101 ∷ 115 ∷ 32 ∷ 48 ∷ 32 ∷ 112 ∷ 111 ∷ 105 ∷ 110 ∷ 116 ∷ 115 ∷ 32 ∷ 48 ∷ 10 ∷ []
unfolding consecutive tabulate merge_ids join_classes joins rep count_below leader number_by label refusal_number table first given_by stands_in stride volume index place is_extent off_size sides cells parity order along upper_neighbours voxel row_of occupied row active pairs alike edges_at order_below edges active_of number numbered_at numbered code_at map_down labels of_order largest component first_cell row_at_first component_row gap digit ended words_from words_of all_digits value_from spelled is_number numbers word readable extents_in codes_in formed declines_text text_refusal asked_extents asked_codes decimal_in decimal_digits spaced letter width coordinates line lines_for lines_of heading listing refused_line printed outside
outside_printed = refl
