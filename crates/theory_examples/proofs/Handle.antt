-- The volume with a handle, computed stage by stage: the whole at once is above the steps that one declaration may take.
-- Assumes nothing.
use mathlib.Core.Path.{◌∙◌, ◌≡◌, ap, ap₂, refl}
use mathlib.Core.List.{List, [], ◌∷◌}
use Prim.Native.Nat.{ℕ}
use lib.ListN.{get_or}
use lib.Dec.{eqb}
use mathlib.Core.Bool.{not}
use Rattle.lists.specs.Lists.{consecutive, tabulate, zeros, overlay, keep}
use Rattle.closure.specs.Joined.{merge_ids, join_classes as join_roots, joins, rep}
use Rattle.closure.specs.Numbered.{count_below, leader, number_by, label}
use Rattle.closure.specs.Trees.{ancestor, root_of}
use Rattle.union_find.specs.Links.{parent, root, sound_at, sound_way, sound_from, sound_below, sound_range, steps_within, depth, depths, sound_ways}
use Rattle.refusals.specs.Refusals.{number as refusal_number, table, first, given_by, stands_in}
use Rattle.cells.specs.Box.{stride, volume, index, place}
use Rattle.cells.specs.Extents.{is_extent, off_size}
use Rattle.cells.specs.Grid.{sides, cells, parity, order, voxel, along, upper_neighbours}
use Rattle.cells.specs.Row.{row_of, row, occupied, active}
use Rattle.labels.specs.Number.{pairs, alike, edges_at, order_below, edges, active_of, number, numbered_at, numbered as numbered_cells, code_at, map_down, labels}
use Rattle.labels.specs.Components.{of_order, largest, component, row_at_first, component_row}
use Rattle.cutting.specs.Cutting.{ascends, cut_list, intervals, low_end, high_end, block_sides, blocks, good_cut, interval, origin, block_extents, embed, block_codes, follows, same_interval, seam}
use Rattle.joiner.specs.Job.{Stage, same_stage, ticked, count_of, from_of, node, key_of, first_at, lengths_fit, block_trays, link_trays, found_trays, number_trays, first_trays, listed_trays, kind_trays, Seam, Crossing, Points, Closed}
use Rattle.joiner.specs.Stages.{has_on, has_cell, products, shared, seams, seam_axis, seam_step, steps_of, next_stage, finished, next_after}
use Rattle.joiner.specs.Calls.{differs, overfull, full, Call, enrol, join, cross, point}
use Rattle.joiner.specs.Declines.{tally_fits, tallies_fit, counted, standing, map_stands, ways_stand, links_stand, all_links_stand, rows_stand, number_stands, curves_stand, handed_stands, look_stands, last_crossing, stray, final_of, final_row, point_cells, adds, declines, refusal}
use Rattle.joiner.specs.Outcomes.{all_trays, open_declines, open_refusal, nothing, through_links, joined_row, first_of, enrolled_key, shifted, enrolled_row, block_entry, not_after, class_of, is_one, leads, heads, rank, head_of, row_at, final_face, row_final}
use Rattle.theory_examples.specs.Large.{handle}
use Rattle.theory_model.specs.Model.{relinked, at_seam, seam_edge, seam_edges, at_crossing, cross_edge, cross_edges_at, cross_edges, instead, number_kind, moved, enrol_tables, seam_tables, cross_tables, cross_last, crossed, point_tables, point_last, pointed, accepted_state, after, fresh_job, cleared, opened_state}
use Rattle.theory_model.specs.Scripts.{run, used, map_of, steps, contents, outcome, joined_up}
use Rattle.theory_examples.proofs.Images.{Image, three_kinds, image_of, state_of, run_image, accepted_left, run_by_image}

-- ---- the maps of the two blocks

map₀ : List ℕ
map₀ =
    3 ∷ 0 ∷ 3 ∷ 0 ∷ 3 ∷ 0 ∷ 3 ∷ 0 ∷ 3 ∷
    0 ∷ 0 ∷ 0 ∷ 0 ∷ 0 ∷ 0 ∷ 0 ∷ 0 ∷ 0 ∷
    3 ∷ 0 ∷ 3 ∷ 0 ∷ 3 ∷ 0 ∷ 3 ∷ 0 ∷ 3 ∷
    0 ∷ 0 ∷ 0 ∷ 0 ∷ 0 ∷ 0 ∷ 0 ∷ 0 ∷ 0 ∷
    3 ∷ 0 ∷ 3 ∷ 0 ∷ 3 ∷ 0 ∷ 3 ∷ 0 ∷ 3 ∷
    1 ∷ 0 ∷ 1 ∷ 0 ∷ 1 ∷ 0 ∷ 1 ∷ 0 ∷ 0 ∷
    0 ∷ 0 ∷ 0 ∷ 0 ∷ 0 ∷ 0 ∷ 0 ∷ 0 ∷ 0 ∷
    1 ∷ 0 ∷ 0 ∷ 0 ∷ 1 ∷ 0 ∷ 1 ∷ 0 ∷ 0 ∷
    0 ∷ 0 ∷ 0 ∷ 0 ∷ 0 ∷ 0 ∷ 0 ∷ 0 ∷ 0 ∷
    1 ∷ 0 ∷ 1 ∷ 0 ∷ 1 ∷ 0 ∷ 1 ∷ 0 ∷ 0 ∷
    1 ∷ 0 ∷ 1 ∷ 0 ∷ 1 ∷ 0 ∷ 1 ∷ 1 ∷ 3 ∷
    0 ∷ 0 ∷ 1 ∷ 0 ∷ 0 ∷ 0 ∷ 0 ∷ 0 ∷ 0 ∷
    1 ∷ 1 ∷ 3 ∷ 1 ∷ 1 ∷ 0 ∷ 1 ∷ 1 ∷ 3 ∷
    0 ∷ 0 ∷ 1 ∷ 0 ∷ 0 ∷ 0 ∷ 0 ∷ 0 ∷ 0 ∷
    1 ∷ 0 ∷ 1 ∷ 0 ∷ 1 ∷ 0 ∷ 1 ∷ 1 ∷ 3 ∷ []

map₁ : List ℕ
map₁ =
    1 ∷ 0 ∷ 1 ∷ 0 ∷ 1 ∷ 0 ∷ 1 ∷ 1 ∷ 3 ∷
    0 ∷ 0 ∷ 2 ∷ 0 ∷ 0 ∷ 0 ∷ 0 ∷ 0 ∷ 0 ∷
    1 ∷ 2 ∷ 3 ∷ 2 ∷ 1 ∷ 0 ∷ 1 ∷ 1 ∷ 3 ∷
    0 ∷ 0 ∷ 2 ∷ 0 ∷ 0 ∷ 0 ∷ 0 ∷ 0 ∷ 0 ∷
    1 ∷ 0 ∷ 1 ∷ 0 ∷ 1 ∷ 0 ∷ 1 ∷ 1 ∷ 3 ∷
    3 ∷ 0 ∷ 3 ∷ 0 ∷ 3 ∷ 0 ∷ 3 ∷ 1 ∷ 0 ∷
    0 ∷ 0 ∷ 2 ∷ 0 ∷ 2 ∷ 0 ∷ 0 ∷ 0 ∷ 0 ∷
    3 ∷ 2 ∷ 0 ∷ 0 ∷ 2 ∷ 2 ∷ 3 ∷ 1 ∷ 0 ∷
    0 ∷ 0 ∷ 2 ∷ 0 ∷ 2 ∷ 0 ∷ 1 ∷ 0 ∷ 0 ∷
    3 ∷ 0 ∷ 3 ∷ 0 ∷ 3 ∷ 1 ∷ 1 ∷ 0 ∷ 0 ∷
    2 ∷ 0 ∷ 2 ∷ 0 ∷ 2 ∷ 0 ∷ 2 ∷ 4 ∷ 3 ∷
    0 ∷ 0 ∷ 4 ∷ 0 ∷ 4 ∷ 0 ∷ 0 ∷ 0 ∷ 0 ∷
    2 ∷ 4 ∷ 3 ∷ 0 ∷ 3 ∷ 4 ∷ 2 ∷ 4 ∷ 3 ∷
    0 ∷ 0 ∷ 4 ∷ 0 ∷ 4 ∷ 0 ∷ 4 ∷ 0 ∷ 0 ∷
    2 ∷ 0 ∷ 2 ∷ 0 ∷ 2 ∷ 4 ∷ 3 ∷ 0 ∷ 3 ∷ []

map₀_is : map_of handle.told.cutting handle.codes 0 ≡ map₀
unfolding handle map₀ consecutive tabulate merge_ids join_roots joins rep count_below leader number_by label stride volume index place sides cells parity order voxel along upper_neighbours row_of row occupied active pairs alike edges_at order_below edges active_of number numbered_at numbered_cells code_at map_down labels intervals low_end high_end block_sides interval origin block_extents block_codes map_of
map₀_is = refl

map₁_is : map_of handle.told.cutting handle.codes 1 ≡ map₁
unfolding handle map₁ consecutive tabulate merge_ids join_roots joins rep count_below leader number_by label stride volume index place sides cells parity order voxel along upper_neighbours row_of row occupied active pairs alike edges_at order_below edges active_of number numbered_at numbered_cells code_at map_down labels intervals low_end high_end block_sides interval origin block_extents block_codes map_of
map₁_is = refl

calls : List Call
calls = enrol 0 map₀ ∷ enrol 1 map₁ ∷ join 0 1 map₀ map₁ ∷ cross 0 map₀ ∷ cross 1 map₁ ∷ point 0 map₀ ∷ point 1 map₁ ∷ []

steps_are : steps handle.told.cutting (map_of handle.told.cutting handle.codes) ≡ calls
unfolding calls handle steps consecutive blocks block_sides intervals volume seams products seam follows same_interval interval place
steps_are = ap₂ {C = List Call} (λ (l u : List ℕ). enrol 0 l ∷ enrol 1 u ∷ join 0 1 l u ∷ cross 0 l ∷ cross 1 u ∷ point 0 l ∷ point 1 u ∷ []) map₀_is map₁_is

-- ---- the state after each stage

-- The tallies, the block table, the keys and the rows stay from the enrolment on.
abbrev later : Stage → List ℕ → List ℕ → List (List ℕ) → List (List ℕ) → List (List ℕ) → List (List ℕ) → Image
later stage numbered ticks links numbers firsts listed = record {
  stage = stage;
  sofar = 5 ∷ 2 ∷ 0 ∷ [];
  numbered = numbered;
  ticks = ticks;
  blocks = 1 ∷ 0 ∷ 0 ∷ 0 ∷ 0 ∷ 4 ∷ 2 ∷ 0 ∷ 1 ∷ 0 ∷ [];
  links = links;
  keys = (737280 ∷ 1589249 ∷ 1654785 ∷ 2211841 ∷ 3063809 ∷ []) ∷ (2326529 ∷ 2392065 ∷ []) ∷ [] ∷ [];
  rows = (1 ∷ 3 ∷ 1 ∷ 3 ∷ 1 ∷ 3 ∷ 1 ∷ 2 ∷ 2 ∷ 3 ∷ []) ∷ (2 ∷ 4 ∷ 5 ∷ 0 ∷ 3 ∷ 4 ∷ 5 ∷ 0 ∷ []) ∷ [] ∷ [];
  numbers = numbers;
  firsts = firsts;
  listed = listed;
}

enrolled : Image
enrolled =
    later Seam (0 ∷ 0 ∷ 0 ∷ [])
    (1 ∷ 0 ∷ 0 ∷ 0 ∷ 0 ∷ 0 ∷ 1 ∷ 0 ∷ 0 ∷ 0 ∷ 0 ∷ 0 ∷ [])
    ((0 ∷ 0 ∷ 0 ∷ 0 ∷ 0 ∷ []) ∷ (0 ∷ 0 ∷ []) ∷ [] ∷ [])
    ((7 ∷ 7 ∷ 7 ∷ 7 ∷ 7 ∷ []) ∷ (7 ∷ 7 ∷ []) ∷ [] ∷ [])
    ((7 ∷ 7 ∷ 7 ∷ 7 ∷ 7 ∷ []) ∷ (7 ∷ 7 ∷ []) ∷ [] ∷ [])
    ((7 ∷ 7 ∷ 7 ∷ 7 ∷ 7 ∷ 7 ∷ 7 ∷ 7 ∷ 7 ∷ 7 ∷ []) ∷ (7 ∷ 7 ∷ 7 ∷ 7 ∷ 7 ∷ 7 ∷ 7 ∷ 7 ∷ []) ∷ [] ∷ [])

seamed : Image
seamed =
    later Crossing (0 ∷ 0 ∷ 0 ∷ [])
    (1 ∷ 0 ∷ 0 ∷ 1 ∷ 0 ∷ 0 ∷ 1 ∷ 0 ∷ 0 ∷ 0 ∷ 0 ∷ 0 ∷ [])
    ((0 ∷ 1 ∷ 2 ∷ 0 ∷ 0 ∷ []) ∷ (0 ∷ 0 ∷ []) ∷ [] ∷ [])
    ((7 ∷ 7 ∷ 7 ∷ 7 ∷ 7 ∷ []) ∷ (7 ∷ 7 ∷ []) ∷ [] ∷ [])
    ((7 ∷ 7 ∷ 7 ∷ 7 ∷ 7 ∷ []) ∷ (7 ∷ 7 ∷ []) ∷ [] ∷ [])
    ((7 ∷ 7 ∷ 7 ∷ 7 ∷ 7 ∷ 7 ∷ 7 ∷ 7 ∷ 7 ∷ 7 ∷ []) ∷ (7 ∷ 7 ∷ 7 ∷ 7 ∷ 7 ∷ 7 ∷ 7 ∷ 7 ∷ []) ∷ [] ∷ [])

crossed_over : Image
crossed_over =
    later Points (3 ∷ 1 ∷ 0 ∷ [])
    (1 ∷ 0 ∷ 0 ∷ 1 ∷ 1 ∷ 0 ∷ 1 ∷ 0 ∷ 0 ∷ 0 ∷ 1 ∷ 0 ∷ [])
    ((0 ∷ 1 ∷ 2 ∷ 0 ∷ 0 ∷ []) ∷ (0 ∷ 1 ∷ []) ∷ [] ∷ [])
    ((1 ∷ 1 ∷ 1 ∷ 2 ∷ 3 ∷ []) ∷ (1 ∷ 1 ∷ []) ∷ [] ∷ [])
    ((45 ∷ 135 ∷ 187 ∷ 7 ∷ 7 ∷ []) ∷ (142 ∷ 7 ∷ []) ∷ [] ∷ [])
    ((1 ∷ 3 ∷ 1 ∷ 2 ∷ 2 ∷ 3 ∷ 7 ∷ 7 ∷ 7 ∷ 7 ∷ []) ∷ (1 ∷ 2 ∷ 3 ∷ 0 ∷ 7 ∷ 7 ∷ 7 ∷ 7 ∷ []) ∷ [] ∷ [])

closed : Image
closed =
    later Closed (3 ∷ 1 ∷ 0 ∷ [])
    (1 ∷ 0 ∷ 0 ∷ 1 ∷ 1 ∷ 1 ∷ 1 ∷ 0 ∷ 0 ∷ 0 ∷ 1 ∷ 1 ∷ [])
    ((0 ∷ 1 ∷ 2 ∷ 0 ∷ 0 ∷ []) ∷ (0 ∷ 1 ∷ []) ∷ [] ∷ [])
    ((1 ∷ 1 ∷ 1 ∷ 2 ∷ 3 ∷ []) ∷ (1 ∷ 1 ∷ []) ∷ [] ∷ [])
    ((45 ∷ 135 ∷ 187 ∷ 7 ∷ 7 ∷ []) ∷ (142 ∷ 7 ∷ []) ∷ [] ∷ [])
    ((1 ∷ 3 ∷ 1 ∷ 2 ∷ 2 ∷ 3 ∷ 7 ∷ 7 ∷ 7 ∷ 7 ∷ []) ∷ (1 ∷ 2 ∷ 3 ∷ 0 ∷ 7 ∷ 7 ∷ 7 ∷ 7 ∷ []) ∷ [] ∷ [])

enrols : run_image handle.told (image_of (opened_state handle.told (used handle.told))) (enrol 0 map₀ ∷ enrol 1 map₁ ∷ []) ≡ enrolled
unfolding handle map₀ map₁ enrolled consecutive tabulate zeros overlay merge_ids join_roots joins ancestor root_of parent root refusal_number table first given_by stands_in stride volume index place is_extent off_size sides cells parity order along upper_neighbours row_of row occupied of_order largest component row_at_first component_row ascends cut_list intervals low_end high_end block_sides blocks good_cut interval origin block_extents embed follows same_interval seam same_stage ticked count_of from_of node key_of first_at lengths_fit block_trays link_trays found_trays number_trays first_trays listed_trays kind_trays has_on has_cell products shared seams seam_axis seam_step steps_of next_stage finished next_after differs overfull full tally_fits tallies_fit counted standing map_stands ways_stand links_stand all_links_stand sound_at sound_way sound_from sound_below sound_range steps_within depth depths sound_ways rows_stand number_stands curves_stand handed_stands look_stands last_crossing stray final_of final_row point_cells adds declines refusal all_trays open_declines open_refusal nothing through_links joined_row first_of enrolled_key shifted enrolled_row block_entry not_after class_of is_one leads heads rank head_of row_at final_face row_final relinked at_seam seam_edge seam_edges at_crossing cross_edge cross_edges_at cross_edges instead number_kind moved enrol_tables seam_tables cross_tables cross_last crossed point_tables point_last pointed accepted_state after fresh_job cleared opened_state used three_kinds image_of state_of run_image
enrols = refl

seam_accepted : refusal (state_of handle.told enrolled) (join 0 1 map₀ map₁) ≡ 0
unfolding handle map₀ map₁ enrolled consecutive refusal_number table first given_by stands_in stride volume index place is_extent off_size sides cells parity order along upper_neighbours row_of occupied of_order largest ascends cut_list intervals low_end high_end block_sides blocks good_cut interval origin block_extents embed follows same_interval seam same_stage ticked count_of from_of node lengths_fit block_trays link_trays found_trays number_trays first_trays listed_trays kind_trays has_on has_cell products shared seams seam_axis seam_step steps_of finished differs overfull full tally_fits tallies_fit counted standing map_stands ways_stand links_stand all_links_stand sound_at sound_way sound_from sound_below sound_range steps_within depth depths sound_ways rows_stand number_stands curves_stand handed_stands look_stands last_crossing stray final_of final_row point_cells adds declines refusal state_of parent
seam_accepted = refl

seam_left : image_of (accepted_state (state_of handle.told enrolled) (join 0 1 map₀ map₁)) ≡ seamed
unfolding handle map₀ map₁ enrolled seamed consecutive tabulate overlay merge_ids join_roots joins ancestor root_of parent root stride volume index place sides cells parity order along upper_neighbours row_of row occupied of_order largest component row_at_first component_row intervals low_end high_end block_sides blocks interval origin block_extents embed follows same_interval seam same_stage ticked from_of node key_of first_at products shared seams seam_axis seam_step steps_of next_stage finished next_after final_of final_row point_cells adds through_links joined_row first_of enrolled_key shifted enrolled_row block_entry not_after class_of is_one leads heads rank head_of row_at final_face row_final relinked at_seam seam_edge seam_edges at_crossing cross_edge cross_edges_at cross_edges instead number_kind moved enrol_tables seam_tables cross_tables cross_last crossed point_tables point_last pointed accepted_state three_kinds image_of state_of
seam_left = refl

crosses : run_image handle.told seamed (cross 0 map₀ ∷ cross 1 map₁ ∷ []) ≡ crossed_over
unfolding handle map₀ map₁ seamed crossed_over consecutive tabulate overlay merge_ids join_roots joins ancestor root_of parent root refusal_number table first given_by stands_in stride volume index place is_extent off_size sides cells parity order along upper_neighbours row_of row occupied of_order largest component row_at_first component_row ascends cut_list intervals low_end high_end block_sides blocks good_cut interval origin block_extents embed follows same_interval seam same_stage ticked count_of from_of node key_of first_at lengths_fit block_trays link_trays found_trays number_trays first_trays listed_trays kind_trays has_on has_cell products shared seams seam_axis seam_step steps_of next_stage finished next_after differs overfull full tally_fits tallies_fit counted standing map_stands ways_stand links_stand all_links_stand sound_at sound_way sound_from sound_below sound_range steps_within depth depths sound_ways rows_stand number_stands curves_stand handed_stands look_stands last_crossing stray final_of final_row point_cells adds declines refusal through_links joined_row first_of enrolled_key shifted enrolled_row block_entry not_after class_of is_one leads heads rank head_of row_at final_face row_final relinked at_seam seam_edge seam_edges at_crossing cross_edge cross_edges_at cross_edges instead number_kind moved enrol_tables seam_tables cross_tables cross_last crossed point_tables point_last pointed accepted_state after three_kinds image_of state_of run_image
crosses = refl

-- "Keeping only active points for the crossing pass" would join nothing.
active_only : relinked (get_or seamed.links 1 [])
    (cross_edges_at handle.told.cutting (state_of handle.told seamed).tables 1 map₁ (keep (λ p. not (eqb (get_or map₁ p 0) 0)) (of_order (block_extents handle.told.cutting 1) 0)))
    ≡ get_or seamed.links 1 []
unfolding handle map₁ seamed consecutive tabulate merge_ids join_roots joins ancestor root_of parent root stride volume place sides cells parity order along upper_neighbours row_of of_order intervals low_end high_end block_sides blocks interval block_extents from_of node products through_links joined_row relinked at_crossing cross_edge cross_edges_at cross_edges state_of
active_only = refl

points : run_image handle.told crossed_over (point 0 map₀ ∷ point 1 map₁ ∷ []) ≡ closed
unfolding handle map₀ map₁ crossed_over closed consecutive tabulate overlay merge_ids join_roots joins ancestor root_of parent root refusal_number table first given_by stands_in stride volume index place is_extent off_size sides cells parity order along upper_neighbours row_of row occupied of_order largest component row_at_first component_row ascends cut_list intervals low_end high_end block_sides blocks good_cut interval origin block_extents embed follows same_interval seam same_stage ticked count_of from_of node key_of first_at lengths_fit block_trays link_trays found_trays number_trays first_trays listed_trays kind_trays has_on has_cell products shared seams seam_axis seam_step steps_of next_stage finished next_after differs overfull full tally_fits tallies_fit counted standing map_stands ways_stand links_stand all_links_stand sound_at sound_way sound_from sound_below sound_range steps_within depth depths sound_ways rows_stand number_stands curves_stand handed_stands look_stands last_crossing stray final_of final_row point_cells adds declines refusal through_links joined_row first_of enrolled_key shifted enrolled_row block_entry not_after class_of is_one leads heads rank head_of row_at final_face row_final relinked at_seam seam_edge seam_edges at_crossing cross_edge cross_edges_at cross_edges instead number_kind moved enrol_tables seam_tables cross_tables cross_last crossed point_tables point_last pointed accepted_state after three_kinds image_of state_of run_image
points = refl

-- ---- the whole

opened_told : (opened_state handle.told (used handle.told)).job.told ≡ handle.told
unfolding handle consecutive tabulate zeros refusal_number table first given_by stands_in volume is_extent off_size ascends cut_list intervals block_sides blocks good_cut lengths_fit block_trays link_trays found_trays number_trays first_trays listed_trays kind_trays all_trays open_declines open_refusal nothing fresh_job cleared opened_state used
opened_told = refl

runs : run_image handle.told (image_of (opened_state handle.told (used handle.told))) calls ≡ closed
unfolding calls run_image
runs =
    ap (λ (i : Image). run_image handle.told i (join 0 1 map₀ map₁ ∷ cross 0 map₀ ∷ cross 1 map₁ ∷ point 0 map₀ ∷ point 1 map₁ ∷ [])) enrols
    ∙ ap (λ (i : Image). run_image handle.told i (cross 0 map₀ ∷ cross 1 map₁ ∷ point 0 map₀ ∷ point 1 map₁ ∷ []))
    (ap image_of (accepted_left (state_of handle.told enrolled) (join 0 1 map₀ map₁) seam_accepted) ∙ seam_left)
    ∙ ap (λ (i : Image). run_image handle.told i (point 0 map₀ ∷ point 1 map₁ ∷ [])) crosses
    ∙ points

closed_is : outcome (state_of handle.told closed) ≡ handle.listed
unfolding handle closed outcome contents state_of
closed_is = refl

pub handle_joined : joined_up handle.told handle.codes ≡ handle.listed
unfolding joined_up
handle_joined =
    ap (λ (cs : List Call). outcome (run (opened_state handle.told (used handle.told)) cs)) steps_are
    ∙ ap outcome (run_by_image (opened_state handle.told (used handle.told)) handle.told calls closed opened_told runs)
    ∙ closed_is
