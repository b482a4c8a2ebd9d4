-- Small volumes cut and joined, refusals and readings, computed; statement 3 of one of them.
-- Assumes nothing.
use mathlib.Core.Path.{◌≡◌, refl}
use mathlib.Core.List.{List, [], ◌∷◌, map}
use Prim.Native.Nat.{ℕ}
use mathlib.Core.Bool.{true}
use native.Mathlib.Omega.{arith}
use Rattle.lists.specs.Lists.{consecutive, tabulate, zeros, overlay, all_of}
use Rattle.closure.specs.Joined.{merge_ids, join_classes as join_roots, joins, rep}
use Rattle.closure.specs.Numbered.{count_below, leader, number_by, label}
use Rattle.closure.specs.Trees.{ancestor, root_of}
use Rattle.union_find.specs.Links.{parent, root, sound_at, sound_way, sound_from, sound_below, sound_range, steps_within, depth, depths, sound_ways}
use Rattle.refusals.specs.Refusals.{number as refusal_number, table, first, given_by, stands_in}
use Rattle.cells.specs.Box.{stride, volume, index, place, triple}
use Rattle.cells.specs.Extents.{is_extent, off_size}
use Rattle.cells.specs.Grid.{sides, cells, parity, order, voxel_cell, voxel, along, upper_neighbours}
use Rattle.cells.specs.Row.{row_of, row, occupied, active}
use Rattle.labels.specs.Number.{pairs, alike, edges_at, order_below, edges, active_of, number, numbered_at, numbered as numbered_cells, code_at, map_down, labels}
use Rattle.labels.specs.Components.{of_order, largest, component, row_at_first, component_row}
use Rattle.cutting.specs.Cutting.{ascends, cut_list, intervals, low_end, high_end, block_sides, blocks, good_cut, interval, origin, block_extents, embed, block_codes, follows, same_interval, seam}
use Rattle.joiner.specs.Job.{same_stage, ticked, count_of, from_of, node, key_of, first_at, lengths_fit, block_trays, link_trays, found_trays, number_trays, first_trays, listed_trays, kind_trays, Face, Told, State}
use Rattle.joiner.specs.Stages.{has_on, has_cell, local, products, shared, seams, seam_axis, seam_step, steps_of, next_stage, finished, next_after}
use Rattle.joiner.specs.Calls.{differs, overfull, full, Call, answer, enrol, join, cross, point, look, reading}
use Rattle.joiner.specs.Declines.{tally_fits, tallies_fit, counted, standing, map_stands, ways_stand, links_stand, all_links_stand, rows_stand, number_stands, curves_stand, handed_stands, look_stands, last_crossing, stray, final_of, final_row, point_cells, adds, declines, refusal}
use Rattle.joiner.specs.Outcomes.{all_trays, open_declines, open_refusal, nothing, through_links, joined_row, first_of, enrolled_key, shifted, enrolled_row, block_entry, not_after, class_of, is_one, leads, heads, rank, head_of, row_at, final_face, row_final, bisect, point_number, cell_number, looked_up, row_taken}
use Rattle.joiner.specs.Book.{begun, labelled, voxel_codes}
use Rattle.joiner.specs.Statement.{Measured}
use Rattle.lists.proofs.Lists.{consecutive_in}
use Rattle.lists.proofs.Tests.{all_out}
use Rattle.joiner.proofs.Own.{labelled_labelling}
use Rattle.theory_model.specs.Model.{relinked, at_seam, seam_edge, seam_edges, at_crossing, cross_edge, cross_edges_at, cross_edges, instead, number_kind, moved, enrol_tables, seam_tables, cross_tables, cross_last, crossed, point_tables, point_last, pointed, accepted_state, after, fresh_job, cleared, opened_state, answer_of, accepted_answer}
use Rattle.theory_model.specs.Scripts.{run, written, used, map_of, steps, contents, outcome, joined_up}
use Rattle.theory_model.specs.Volumes.{line, columns, slab, told}
use Rattle.theory_model.proofs.Runs.{model_volume}

-- What comes of a volume is what is listed of it.
pub small_jobs : map (λ v. joined_up v.told v.codes) (line ∷ columns ∷ slab ∷ []) ≡ map (λ v. v.listed) (line ∷ columns ∷ slab ∷ [])
unfolding line columns slab consecutive tabulate zeros overlay merge_ids join_roots joins rep count_below leader number_by label ancestor root_of parent root sound_at sound_way sound_from sound_below sound_range steps_within depth depths sound_ways refusal_number table first given_by stands_in stride volume index place is_extent off_size sides cells parity order voxel along upper_neighbours row_of row occupied active pairs alike edges_at order_below edges active_of number numbered_at numbered_cells code_at map_down labels of_order largest component row_at_first component_row ascends cut_list intervals low_end high_end block_sides blocks good_cut interval origin block_extents embed block_codes follows same_interval seam same_stage ticked count_of from_of node key_of first_at lengths_fit block_trays link_trays found_trays number_trays first_trays listed_trays kind_trays has_on has_cell products shared seams seam_axis seam_step steps_of next_stage finished next_after differs overfull full tally_fits tallies_fit counted standing map_stands ways_stand links_stand all_links_stand rows_stand number_stands curves_stand handed_stands look_stands last_crossing stray final_of final_row point_cells adds declines refusal all_trays open_declines open_refusal nothing through_links joined_row first_of enrolled_key shifted enrolled_row block_entry not_after class_of is_one leads heads rank head_of row_at final_face row_final relinked at_seam seam_edge seam_edges at_crossing cross_edge cross_edges_at cross_edges instead number_kind moved enrol_tables seam_tables cross_tables cross_last crossed point_tables point_last pointed accepted_state after fresh_job cleared opened_state run used map_of steps contents outcome joined_up
small_jobs = refl

-- ---- the line, call by call

-- The maps of its two blocks, and one of the second block with another code in the shared layer.
map₀ : List ℕ
map₀ = 1 ∷ 1 ∷ 2 ∷ []

map₁ : List ℕ
map₁ = 2 ∷ 1 ∷ 1 ∷ []

other : List ℕ
other = 3 ∷ 1 ∷ 1 ∷ []

-- The job of the line after some calls, and one that has an entry for one face only.
at : List Call → State
at cs = run (opened_state line.told (used line.told)) cs

narrow : Told
narrow = told line.told.cutting 1 0 0

-- Blocks that come the other way round are numbered the same.
other_way : outcome (at (enrol 1 map₁ ∷ enrol 0 map₀ ∷ join 0 1 map₀ map₁ ∷ cross 1 map₁ ∷ cross 0 map₀ ∷ point 1 map₁ ∷ point 0 map₀ ∷ [])) ≡ line.listed
unfolding map₀ map₁ at line consecutive tabulate zeros overlay merge_ids join_roots joins ancestor root_of parent root sound_at sound_way sound_from sound_below sound_range steps_within depth depths sound_ways refusal_number table first given_by stands_in stride volume index place is_extent off_size sides cells parity order along upper_neighbours row_of row occupied of_order largest component row_at_first component_row ascends cut_list intervals low_end high_end block_sides blocks good_cut interval origin block_extents embed follows same_interval seam same_stage ticked count_of from_of node key_of first_at lengths_fit block_trays link_trays found_trays number_trays first_trays listed_trays kind_trays has_on has_cell products shared seams seam_axis seam_step steps_of next_stage finished next_after differs overfull full tally_fits tallies_fit counted standing map_stands ways_stand links_stand all_links_stand rows_stand number_stands curves_stand handed_stands look_stands last_crossing stray final_of final_row point_cells adds declines refusal all_trays open_declines open_refusal nothing through_links joined_row first_of enrolled_key shifted enrolled_row block_entry not_after class_of is_one leads heads rank head_of row_at final_face row_final relinked at_seam seam_edge seam_edges at_crossing cross_edge cross_edges_at cross_edges instead number_kind moved enrol_tables seam_tables cross_tables cross_last crossed point_tables point_last pointed accepted_state after fresh_job cleared opened_state run used contents outcome
other_way = refl

-- What a call is refused with after others.
refused : List Call → Call → ℕ
refused cs c = (answer_of (at cs) c).refusal

-- A seam before its stage; no such block; enrolled already; a map too short; a number above the block's count; layers that differ; a face too many. A map with 0 at a
-- voxel is enrolled.
refusals :
    refused [] (join 0 1 map₀ map₁) ∷ refused [] (enrol 2 map₀) ∷ refused (enrol 0 map₀ ∷ []) (enrol 0 map₀) ∷ refused [] (enrol 0 (1 ∷ 1 ∷ [])) ∷
    refused (enrol 0 map₀ ∷ enrol 1 map₁ ∷ []) (join 0 1 (1 ∷ 2 ∷ 2 ∷ []) map₁) ∷ refused (enrol 0 map₀ ∷ enrol 1 other ∷ []) (join 0 1 map₀ other) ∷
    (answer_of (run (opened_state narrow (used narrow)) (enrol 0 map₀ ∷ [])) (enrol 1 map₁)).refusal ∷ refused [] (enrol 0 (0 ∷ 1 ∷ 2 ∷ [])) ∷ [] ≡ 3 ∷ 4 ∷ 5 ∷ 6 ∷ 8 ∷ 9 ∷ 10 ∷ 0 ∷ []
unfolding map₀ map₁ other at narrow refused line consecutive tabulate zeros overlay merge_ids join_roots joins ancestor root_of parent root sound_at sound_way sound_from sound_below sound_range steps_within depth depths sound_ways refusal_number table first given_by stands_in stride volume index place is_extent off_size sides cells parity order along upper_neighbours row_of row occupied of_order largest component row_at_first component_row ascends cut_list intervals low_end high_end block_sides blocks good_cut interval origin block_extents embed follows same_interval seam same_stage ticked count_of from_of node key_of first_at lengths_fit block_trays link_trays found_trays number_trays first_trays listed_trays kind_trays has_on has_cell local products shared seams seam_axis seam_step steps_of next_stage finished next_after differs overfull full tally_fits tallies_fit counted standing map_stands ways_stand links_stand all_links_stand rows_stand number_stands curves_stand handed_stands look_stands last_crossing stray final_of final_row point_cells adds declines refusal all_trays open_declines open_refusal nothing through_links joined_row first_of enrolled_key shifted enrolled_row block_entry not_after class_of is_one leads heads rank head_of row_at final_face row_final bisect point_number cell_number looked_up row_taken relinked at_seam seam_edge seam_edges at_crossing cross_edge cross_edges_at cross_edges instead number_kind moved enrol_tables seam_tables cross_tables cross_last crossed point_tables point_last pointed accepted_answer accepted_state answer_of after fresh_job cleared opened_state run used
refusals = refl

closed : List Call
closed = steps line.told.cutting (map_of line.told.cutting line.codes)

-- The second block's face is face 2 of the volume; a voxel has its code; face 2 has row 1 2, and there is no face 3.
readings :
    answer_of (at closed) (look 1 map₁ (triple 3 0 0)) ∷ answer_of (at closed) (look 1 map₁ (triple 4 0 0)) ∷ answer_of (at closed) (reading Face 2) ∷
    answer_of (at closed) (reading Face 3) ∷ []
    ≡ answer 0 2 [] ∷ answer 0 1 [] ∷ answer 0 0 (1 ∷ 2 ∷ []) ∷ answer 4 0 [] ∷ []
unfolding map₁ closed at line consecutive tabulate zeros overlay merge_ids join_roots joins rep count_below leader number_by label ancestor root_of parent root sound_at sound_way sound_from sound_below sound_range steps_within depth depths sound_ways refusal_number table first given_by stands_in stride volume index place is_extent off_size sides cells parity order voxel along upper_neighbours row_of row occupied active pairs alike edges_at order_below edges active_of number numbered_at numbered_cells code_at map_down labels of_order largest component row_at_first component_row ascends cut_list intervals low_end high_end block_sides blocks good_cut interval origin block_extents embed block_codes follows same_interval seam same_stage ticked count_of from_of node key_of first_at lengths_fit block_trays link_trays found_trays number_trays first_trays listed_trays kind_trays has_on has_cell local products shared seams seam_axis seam_step steps_of next_stage finished next_after differs overfull full tally_fits tallies_fit counted standing map_stands ways_stand links_stand all_links_stand rows_stand number_stands curves_stand handed_stands look_stands last_crossing stray final_of final_row point_cells adds declines refusal all_trays open_declines open_refusal nothing through_links joined_row first_of enrolled_key shifted enrolled_row block_entry not_after class_of is_one leads heads rank head_of row_at final_face row_final bisect point_number cell_number looked_up row_taken relinked at_seam seam_edge seam_edges at_crossing cross_edge cross_edges_at cross_edges instead number_kind moved enrol_tables seam_tables cross_tables cross_last crossed point_tables point_last pointed accepted_answer accepted_state answer_of after fresh_job cleared opened_state run used map_of steps
readings = refl

-- ---- statement 3 of the line: its premises hold

opens : open_refusal line.told (used line.told) ≡ 0
unfolding line consecutive tabulate refusal_number table first given_by stands_in volume is_extent off_size ascends cut_list intervals block_sides blocks good_cut lengths_fit block_trays link_trays found_trays number_trays first_trays listed_trays kind_trays all_trays open_declines open_refusal used
opens = refl

tested : all_of (λ b. labelled (block_extents line.told.cutting b) (map_of line.told.cutting line.codes b)) (consecutive 0 (blocks line.told.cutting)) ≡ true
unfolding line consecutive tabulate merge_ids join_roots joins rep count_below leader number_by label stride volume index place sides cells parity order voxel_cell voxel along upper_neighbours row_of row occupied active pairs alike edges_at order_below edges active_of number numbered_at numbered_cells code_at map_down labels intervals low_end high_end block_sides blocks interval origin block_extents block_codes voxel_codes labelled map_of
tested = refl

line_measured : Measured (map_of line.told.cutting line.codes) (begun line.told) (written (opened_state line.told (used line.told)) (steps line.told.cutting (map_of line.told.cutting line.codes)))
line_measured =
    model_volume line.told (used line.told) (map_of line.told.cutting line.codes) opens
    (λ b h. labelled_labelling _ _ (all_out _ (consecutive 0 (blocks line.told.cutting)) tested (consecutive_in 0 (blocks line.told.cutting) (omega arith) (omega arith))))
