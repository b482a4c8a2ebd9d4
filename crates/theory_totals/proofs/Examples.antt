-- The totals of three small closed jobs, computed: what is refused, what is added in either order of blocks, and the totals of the uncut volume. The first is the
-- line, 3×1×1 with codes 1 2 1, cut 0 1 2; the second has a face cell in the overlap of its blocks; the third has a voxel outside.
-- Assumes nothing.
use mathlib.Core.Path.{◌≡◌, refl}
use mathlib.Core.Bool.{true, false, cond}
use mathlib.Core.List.{List, [], ◌∷◌}
use Prim.Native.Nat.{ℕ, ◌*◌}
use lib.Dec.{eqb}
use lib.ListN.{set, length, replicate}
use lib.IntN.{pos, negsuc}
use lib.Ieee.{Float, nan, fin, add}
use Rattle.lists.specs.Lists.{consecutive, tabulate, zeros}
use Rattle.closure.specs.Joined.{merge_ids, join_classes, joins, rep}
use Rattle.closure.specs.Numbered.{count_below, leader, number_by, label}
use Rattle.refusals.specs.Refusals.{number, table, first, given_by, stands_in}
use Rattle.cells.specs.Box.{triple, stride, volume, index, place}
use Rattle.cells.specs.Extents.{is_extent, off_size}
use Rattle.cells.specs.Grid.{sides, cells, parity, order, voxel_cell, voxel, along, upper_neighbours}
use Rattle.cells.specs.Row.{row_of, row, occupied, active}
use Rattle.labels.specs.Number.{pairs, alike, edges_at, order_below, edges, active_of, number as number_named, numbered_at, numbered, code_at, map_down, labels}
use Rattle.labels.specs.Components.{of_order, largest, component, row_at_first, component_row}
use Rattle.cutting.specs.Cutting.{Cutting, ascends, cut_list, intervals, low_end, high_end, block_sides, blocks, good_cut, interval, origin, block_extents, embed}
use Rattle.joiner.specs.Job.{Face, Curve, Point, Closed, State, same_stage, count_of, from_of, node, lengths_fit, number_trays}
use Rattle.joiner.specs.Stages.{has_on, has_cell, local, lowest_block, code_in, codes_of}
use Rattle.joiner.specs.Declines.{tally_fits, tallies_fit, counted, standing, map_stands, number_stands, final_of}
use Rattle.strains.specs.Units.{is_units, whole_units, float_of, plus_zero}
use Rattle.strains.specs.Readings.{is_good, sum_with, units_in, units_sum, kind_of, of_kind}
use Rattle.totals.specs.Totals.{slot_of, after, sum_added, sums_with, more, count_added, counts_with, reading_of, reading_at, fits_at, readings_fit, side_at, given_side, totals_of, side_stands, stands_at, both_stand}
use Rattle.totals.specs.declared.Side.{Side}
use Rattle.totals.specs.declared.Totals.{Totals}
use Rattle.strain_calls.specs.Tables.{TotalTables, total_tables, total_trays, zeroed}
use Rattle.strain_calls.specs.Adding.{gathered, voxel_taken, face_taken, is_lowest, counted_cells, cell_adds, block_adds}
use Rattle.strain_calls.specs.Calls.{StrainCall, strain, total, no_side, all_come}
use Rattle.strain_calls.specs.Declines.{has_come, total_stands, face_stands, faces_stand, strain_declines, strain_refusal}
use Rattle.strain_calls.specs.Outcomes.{with_readings}
use Rattle.theory_totals.specs.Book.{on_side, side_readings, side_totals, face_totals, reading_from}
use Rattle.theory_totals.specs.Statement.{uncut_from}

-- ---- the closed job, its maps and its readings

-- A closed job of blocks with a face each, whose final numbers are listed: `many` different ones. The table of blocks has for each its counts and where its faces
-- and curves begin.
abbrev closed_job : Cutting → List ℕ → ℕ → List ℕ → State
closed_job k block_table many finals =
    record {
      job = record {
        told = record { cutting = k; entries = elim [ Face ↦ length finals | Curve ↦ 0 | Point ↦ 0 ] };
        stage = Closed;
        sofar = elim [ Face ↦ length finals | Curve ↦ 0 | Point ↦ 0 ];
        numbered = elim [ Face ↦ many | Curve ↦ 0 | Point ↦ 0 ];
      };
      tables = record {
        ticks = [];
        blocks = block_table;
        links = λ κ. [];
        keys = λ κ. [];
        rows = λ κ. [];
        numbers = elim [ Face ↦ finals | Curve ↦ [] | Point ↦ [] ];
        firsts = λ κ. [];
        listed = λ κ. [];
      };
    }

-- .. of two blocks.
abbrev two_blocks : List ℕ
two_blocks = 1 ∷ 0 ∷ 0 ∷ 0 ∷ 0 ∷ 1 ∷ 0 ∷ 0 ∷ 1 ∷ 0 ∷ []

-- Three voxels in a row, the second in both blocks.
abbrev cutting : Cutting
cutting = record { extents = triple 3 1 1; cx = 0 ∷ 1 ∷ 2 ∷ []; cy = 0 ∷ []; cz = 0 ∷ [] }

-- The first block's face is face 1 of the volume, the second's face 2.
abbrev closed : State
closed = closed_job cutting two_blocks 2 (1 ∷ 2 ∷ [])

abbrev map₀ : List ℕ
map₀ = 1 ∷ 1 ∷ 2 ∷ []

abbrev map₁ : List ℕ
map₁ = 2 ∷ 1 ∷ 1 ∷ []

-- The first block: a strain of minus zero and a clipped 2,048. The second: a strain of 1.5 and a missing one.
abbrev values₀ : List Float
values₀ = fin true 0 (pos 0) ∷ fin false 1 (pos 11) ∷ []

abbrev kinds₀ : List ℕ
kinds₀ = 0 ∷ 1 ∷ []

abbrev values₁ : List Float
values₁ = fin false 3 (negsuc 0) ∷ nan ∷ []

abbrev kinds₁ : List ℕ
kinds₁ = 0 ∷ 2 ∷ []

-- Three tables with the lengths that a job of so many blocks and entries states, whatever they held, and the totals zeroed.
abbrev fresh_for : ℕ → ℕ → TotalTables
fresh_for many entries = zeroed (total_tables (replicate many 7) (replicate (2 * entries) nan) (replicate (6 * entries) 7))

abbrev fresh : TotalTables
fresh = fresh_for 2 2

-- What a call is refused with.
unfoldable pub refused : TotalTables → StrainCall → ℕ
unfolding add consecutive tabulate zeros number table first given_by stands_in stride volume index place is_extent off_size sides cells parity order voxel along upper_neighbours row_of row of_order largest component ascends cut_list intervals low_end high_end block_sides blocks good_cut interval origin block_extents embed same_stage count_of from_of node lengths_fit number_trays has_on has_cell local lowest_block tally_fits tallies_fit counted standing map_stands number_stands final_of is_units whole_units float_of is_good sum_with units_in units_sum kind_of of_kind slot_of after sum_added sums_with more count_added counts_with reading_of reading_at fits_at readings_fit side_at given_side totals_of side_stands stands_at both_stand total_trays zeroed gathered voxel_taken face_taken is_lowest counted_cells cell_adds block_adds all_come has_come total_stands face_stands faces_stand strain_declines strain_refusal with_readings on_side side_readings side_totals face_totals reading_from
refused w c = strain_refusal closed w c

-- The tables after a block's readings.
abbrev with₀ : TotalTables → TotalTables
with₀ w = with_readings closed w 0 map₀ values₀ kinds₀

abbrev with₁ : TotalTables → TotalTables
with₁ w = with_readings closed w 1 map₁ values₁ kinds₁

-- ---- refusals

-- The second block comes first, and is accepted.
pub first_accepted : refused fresh (strain 1 map₁ values₁ kinds₁) ≡ 0
unfolding refused
first_accepted = refl

-- A total is then early.
pub total_early : refused (with₁ fresh) (total 1) ≡ 3
unfolding refused
total_early = refl

-- The same block again.
pub block_again : refused (with₁ fresh) (strain 1 map₁ values₁ kinds₁) ≡ 5
unfolding refused
block_again = refl

-- No such block.
pub no_block : refused (with₁ fresh) (strain 2 map₁ values₁ kinds₁) ≡ 4
unfolding refused
no_block = refl

-- A map with a cell too many.
pub other_length : refused (with₁ fresh) (strain 0 (1 ∷ 1 ∷ 2 ∷ 1 ∷ []) values₀ kinds₀) ≡ 6
unfolding refused
other_length = refl

-- A map with a face that the block has not.
pub stray_face : refused (with₁ fresh) (strain 0 (1 ∷ 2 ∷ 2 ∷ []) values₀ kinds₀) ≡ 8
unfolding refused
stray_face = refl

-- A strain of 1/2,048 is no multiple of 1/1,024.
pub no_multiple : refused (with₁ fresh) (strain 0 map₀ (fin false 1 (negsuc 10) ∷ plus_zero ∷ []) kinds₀) ≡ 12
unfolding refused
no_multiple = refl

-- .. and 1/1,024 is one.
pub one_unit : refused (with₁ fresh) (strain 0 map₀ (fin false 1 (negsuc 9) ∷ plus_zero ∷ []) kinds₀) ≡ 0
unfolding refused
one_unit = refl

-- A clipped value of 2,048 + 1/1,024 is out of range.
pub clipped_beyond : refused (with₁ fresh) (strain 0 map₀ (plus_zero ∷ fin false 2097153 (negsuc 9) ∷ []) kinds₀) ≡ 12
unfolding refused
clipped_beyond = refl

-- A strain that is no number.
pub strain_nan : refused (with₁ fresh) (strain 0 map₀ (nan ∷ plus_zero ∷ []) kinds₀) ≡ 12
unfolding refused
strain_nan = refl

-- A kind byte above 2.
pub other_kind : refused (with₁ fresh) (strain 0 map₀ values₀ (0 ∷ 3 ∷ [])) ≡ 12
unfolding refused
other_kind = refl

-- The first block's own lists are accepted.
pub second_accepted : refused (with₁ fresh) (strain 0 map₀ values₀ kinds₀) ≡ 0
unfolding refused
second_accepted = refl

-- ---- totals

abbrev side : Float → ℕ → ℕ → ℕ → Side
side x strains clipped missing = record { sum = x; strains = strains; clipped = clipped; missing = missing }

-- Face 1: a strain of minus zero, so a sum of +0, on the side of code 1; a clipped value, not summed, on that of code 2.
abbrev face₁ : Totals
face₁ = record { lower = side plus_zero 1 0 0; higher = side plus_zero 0 1 0 }

-- Face 2: the second block's voxel of code 1 is missing; the strain of its voxel of code 2 is 1.5.
abbrev face₂ : Totals
face₂ = record { lower = side plus_zero 0 0 1; higher = side (fin false 3 (negsuc 0)) 1 0 0 }

-- The totals of faces 1 and 2 that are read from the tables.
unfoldable pub totals_in : TotalTables → List Totals
unfolding refused
totals_in w = totals_of w.sums w.counts 1 ∷ totals_of w.sums w.counts 2 ∷ []

-- After block 1 and then block 0.
pub totals_down : totals_in (with₀ (with₁ fresh)) ≡ face₁ ∷ face₂ ∷ []
unfolding totals_in
totals_down = refl

-- After block 0 and then block 1.
pub totals_up : totals_in (with₁ (with₀ fresh)) ≡ face₁ ∷ face₂ ∷ []
unfolding totals_in
totals_up = refl

-- ---- the book: the uncut volume

abbrev maps_of_blocks : ℕ → List ℕ
maps_of_blocks b = cond (eqb b 0) map₀ map₁

abbrev values : ℕ → List Float
values b = cond (eqb b 0) values₀ values₁

abbrev kinds : ℕ → List ℕ
kinds b = cond (eqb b 0) kinds₀ kinds₁

-- Its map, by the maps of the blocks.
pub uncut_map_lem : uncut_from cutting maps_of_blocks ≡ 1 ∷ 1 ∷ 2 ∷ 2 ∷ 1 ∷ []
unfolding refused merge_ids join_classes joins rep count_below leader number_by label voxel_cell occupied active pairs alike edges_at order_below edges active_of number_named numbered_at numbered code_at map_down labels code_in codes_of
uncut_map_lem = refl

-- The totals of its faces are those that are read.
pub totals_uncut :
    face_totals (triple 3 1 1) (1 ∷ 1 ∷ 2 ∷ 2 ∷ 1 ∷ []) (reading_from cutting values kinds) 1 ∷
    face_totals (triple 3 1 1) (1 ∷ 1 ∷ 2 ∷ 2 ∷ 1 ∷ []) (reading_from cutting values kinds) 2 ∷ [] ≡ face₁ ∷ face₂ ∷ []
unfolding refused
totals_uncut = refl

-- ---- totals read

abbrev all_in : TotalTables
all_in = with₀ (with₁ fresh)

-- The tables with another sum on the lower-code side of face 1, and with another count of its strains.
abbrev forged_sum : Float → TotalTables
forged_sum x = total_tables all_in.came (set all_in.sums 0 x) all_in.counts

abbrev forged_count : ℕ → TotalTables
forged_count n = total_tables all_in.came all_in.sums (set all_in.counts 0 n)

-- All blocks have come.
pub total_read : refused all_in (total 1) ≡ 0
unfolding refused
total_read = refl

-- Faces are numbered from 1.
pub no_face_0 : refused all_in (total 0) ≡ 4
unfolding refused
no_face_0 = refl

-- There are two.
pub no_face_3 : refused all_in (total 3) ≡ 4
unfolding refused
no_face_3 = refl

-- A sum of 2^44.
pub sum_beyond : refused (forged_sum (fin false 1 (pos 44))) (total 1) ≡ 8
unfolding refused
sum_beyond = refl

-- A sum of 2^43 + 1/512, the next float after 2^43.
pub sum_just_beyond : refused (forged_sum (fin false 4503599627370497 (negsuc 8))) (total 1) ≡ 8
unfolding refused
sum_just_beyond = refl

-- A sum of 2^43 stands.
pub sum_largest : refused (forged_sum (fin false 1 (pos 43))) (total 1) ≡ 0
unfolding refused
sum_largest = refl

-- .. and one of minus 2^43.
pub sum_least : refused (forged_sum (fin true 1 (pos 43))) (total 1) ≡ 0
unfolding refused
sum_least = refl

-- A sum of 1/2,048.
pub sum_no_multiple : refused (forged_sum (fin false 1 (negsuc 10))) (total 1) ≡ 8
unfolding refused
sum_no_multiple = refl

-- The volume has 5 cells, and 6 strains are too many.
pub count_beyond : refused (forged_count 6) (total 1) ≡ 8
unfolding refused
count_beyond = refl

-- .. 5 are not.
pub count_largest : refused (forged_count 5) (total 1) ≡ 0
unfolding refused
count_largest = refl

-- The other face's total is not looked at.
pub other_face : refused (forged_count 6) (total 2) ≡ 0
unfolding refused
other_face = refl

-- ---- a face cell in an overlap: 2×3×1, left column 1, right column 2, y cut 0 1 2, with one face of three cells

abbrev columns : Cutting
columns = record { extents = triple 2 3 1; cx = 0 ∷ 1 ∷ []; cy = 0 ∷ 1 ∷ 2 ∷ []; cz = 0 ∷ [] }

-- Both blocks' faces are face 1 of the volume.
abbrev closed_columns : State
closed_columns = closed_job columns two_blocks 1 (1 ∷ 1 ∷ [])

-- Both blocks have this map.
abbrev column_map : List ℕ
column_map = 1 ∷ 1 ∷ 2 ∷ 0 ∷ 0 ∷ 0 ∷ 1 ∷ 1 ∷ 2 ∷ []

-- The readings of a block: 1 2 / 4 8 of the first, 16 32 / 64 128 of the second, all of them strains. The middle row is read as 4 8 and as 16 32.
abbrev powers : ℕ → List Float
powers b = cond (eqb b 0) (fin false 1 (pos 0) ∷ fin false 1 (pos 1) ∷ fin false 1 (pos 2) ∷ fin false 1 (pos 3) ∷ []) (fin false 1 (pos 4) ∷ fin false 1 (pos 5) ∷ fin false 1 (pos 6) ∷ fin false 1 (pos 7) ∷ [])

abbrev strains_only : ℕ → List ℕ
strains_only b = zeros 4

abbrev with_column : ℕ → TotalTables → TotalTables
with_column b w = with_readings closed_columns w b column_map (powers b) (strains_only b)

-- The sums are 1 + 4 + 64 and 2 + 8 + 128, of three strains each: the middle row counts once, with the first block.
abbrev column_totals : Totals
column_totals = record { lower = side (fin false 69 (pos 0)) 3 0 0; higher = side (fin false 69 (pos 1)) 3 0 0 }

-- Both steps are accepted.
pub columns_accepted :
    strain_refusal closed_columns fresh (strain 1 column_map (powers 1) (strains_only 1)) ∷
    strain_refusal closed_columns (with_column 1 fresh) (strain 0 column_map (powers 0) (strains_only 0)) ∷ [] ≡ 0 ∷ 0 ∷ []
unfolding refused
columns_accepted = refl

-- The totals that are read after block 1 and then block 0, and after block 0 and then block 1.
pub columns_read :
    totals_of (with_column 0 (with_column 1 fresh)).sums (with_column 0 (with_column 1 fresh)).counts 1 ∷
    totals_of (with_column 1 (with_column 0 fresh)).sums (with_column 1 (with_column 0 fresh)).counts 1 ∷ [] ≡ column_totals ∷ column_totals ∷ []
unfolding refused
columns_read = refl

-- The totals of the face of the uncut volume.
pub columns_uncut : face_totals (triple 2 3 1) (uncut_from columns (λ b. column_map)) (reading_from columns powers strains_only) 1 ≡ column_totals
unfolding refused merge_ids join_classes joins rep count_below leader number_by label voxel_cell occupied active pairs alike edges_at order_below edges active_of number_named numbered_at numbered code_at map_down labels code_in codes_of
columns_uncut = refl

-- ---- a voxel outside: 2×1×1 with codes 5 0, in one block

abbrev border : Cutting
border = record { extents = triple 2 1 1; cx = 0 ∷ 1 ∷ []; cy = 0 ∷ []; cz = 0 ∷ [] }

abbrev closed_border : State
closed_border = closed_job border (1 ∷ 0 ∷ 0 ∷ 0 ∷ 0 ∷ []) 1 (1 ∷ [])

abbrev border_map : List ℕ
border_map = 5 ∷ 1 ∷ 0 ∷ []

-- A strain of 1.5 at the voxel of code 5, and one of 8 outside.
abbrev border_values : List Float
border_values = fin false 3 (negsuc 0) ∷ fin false 1 (pos 3) ∷ []

abbrev border_fresh : TotalTables
border_fresh = fresh_for 1 1

abbrev border_in : TotalTables
border_in = with_readings closed_border border_fresh 0 border_map border_values (zeros 2)

-- One reading, on the lower side.
abbrev border_totals : Totals
border_totals = record { lower = side (fin false 3 (negsuc 0)) 1 0 0; higher = no_side }

-- The face cell is active, with the row 5 0.
pub border_map_lem : uncut_from border (λ b. border_map) ≡ border_map
unfolding refused merge_ids join_classes joins rep count_below leader number_by label voxel_cell occupied active pairs alike edges_at order_below edges active_of number_named numbered_at numbered code_at map_down labels code_in codes_of
border_map_lem = refl

pub border_row : component_row (triple 2 1 1) border_map 2 1 ≡ 5 ∷ 0 ∷ 0 ∷ 0 ∷ 0 ∷ 0 ∷ []
unfolding refused row_at_first component_row
border_row = refl

-- The step is accepted; a reading outside is tested as any other.
pub border_accepted :
    strain_refusal closed_border border_fresh (strain 0 border_map border_values (zeros 2)) ∷
    strain_refusal closed_border border_fresh (strain 0 border_map border_values (0 ∷ 3 ∷ [])) ∷
    strain_refusal closed_border border_in (total 1) ∷ [] ≡ 0 ∷ 12 ∷ 0 ∷ []
unfolding refused
border_accepted = refl

-- The total that is read, and that of the uncut volume: the outside has none.
pub border_read : totals_of border_in.sums border_in.counts 1 ∷ face_totals (triple 2 1 1) border_map (reading_from border (λ b. border_values) (λ b. zeros 2)) 1 ∷ [] ≡ border_totals ∷ border_totals ∷ []
unfolding refused
border_read = refl
