-- The definitions give what the second implementation lists of random volumes: a theorem over each table, computed.
-- Assumes nothing.
use mathlib.Core.Path.{◌≡◌, refl}
use mathlib.Core.List.{map}
use Rattle.lists.specs.Lists.{consecutive, tabulate, zeros, overlay}
use Rattle.closure.specs.Joined.{merge_ids, join_classes as join_roots, joins, rep}
use Rattle.closure.specs.Numbered.{count_below, leader, number_by, label}
use Rattle.closure.specs.Trees.{ancestor, root_of}
use Rattle.union_find.specs.Links.{parent, root, sound_at, sound_way, sound_from, sound_below, sound_range, steps_within, depth, depths, sound_ways}
use Rattle.refusals.specs.Refusals.{number as refusal_number, table, first, given_by, stands_in}
use Rattle.cells.specs.Box.{stride, volume, index, place}
use Rattle.cells.specs.Extents.{is_extent, off_size}
use Rattle.cells.specs.Grid.{sides, cells, parity, order, voxel, along, upper_neighbours}
use Rattle.cells.specs.Row.{row_of, row, occupied, active}
use Rattle.labels.specs.Number.{pairs, alike, edges_at, order_below, edges, active_of, number, numbered_at, numbered as numbered_cells, code_at, map_down, labels}
use Rattle.labels.specs.Components.{of_order, largest, component, first_cell, row_at_first, component_row}
use Rattle.cutting.specs.Cutting.{ascends, cut_list, intervals, low_end, high_end, block_sides, blocks, good_cut, interval, origin, block_extents, embed, block_codes, follows, same_interval, seam}
use Rattle.joiner.specs.Job.{same_stage, ticked, count_of, from_of, node, key_of, first_at, lengths_fit, block_trays, link_trays, found_trays, number_trays, first_trays, listed_trays, kind_trays}
use Rattle.joiner.specs.Stages.{has_on, has_cell, products, shared, seams, seam_axis, seam_step, steps_of, next_stage, finished, next_after}
use Rattle.joiner.specs.Calls.{differs, overfull, full}
use Rattle.joiner.specs.Declines.{tally_fits, tallies_fit, counted, standing, map_stands, ways_stand, links_stand, all_links_stand, rows_stand, number_stands, curves_stand, handed_stands, look_stands, last_crossing, stray, final_of, final_row, point_cells, adds, declines, refusal}
use Rattle.joiner.specs.Outcomes.{all_trays, open_declines, open_refusal, nothing, through_links, joined_row, first_of, enrolled_key, shifted, enrolled_row, block_entry, not_after, class_of, is_one, leads, heads, rank, head_of, row_at, final_face, row_final}
use Rattle.theory_model.specs.Model.{relinked, at_seam, seam_edge, seam_edges, at_crossing, cross_edge, cross_edges_at, cross_edges, instead, number_kind, moved, enrol_tables, seam_tables, cross_tables, cross_last, crossed, point_tables, point_last, pointed, accepted_state, after, fresh_job, cleared, opened_state}
use Rattle.theory_model.specs.Scripts.{run, used, map_of, steps, contents, outcome, joined_up}
use Rattle.theory_samples.specs.Answers.{components_of, numbered_of, answer, block_of, cut_of, cut_answer, joined_answer}
use Rattle.theory_samples.specs.Samples.{samples, jobs}

-- Map, counts, first cells and rows of each volume.
pub samples_listed : map answer samples ≡ map (λ v. v.listed) samples
unfolding samples answer numbered_of components_of consecutive tabulate merge_ids join_roots joins rep count_below leader number_by label stride volume index place sides cells parity order voxel along upper_neighbours row_of row occupied active pairs alike edges_at order_below edges active_of number numbered_at numbered_cells code_at map_down labels of_order largest component first_cell row_at_first component_row
samples_listed = refl

-- Blocks and seams of each volume that is cut.
pub cuts_listed : map cut_answer jobs ≡ map (λ v. v.cut) jobs
unfolding jobs cut_answer cut_of block_of consecutive tabulate merge_ids join_roots joins rep count_below leader number_by label stride volume index place sides cells parity order voxel along upper_neighbours row_of row occupied active pairs alike edges_at order_below edges active_of number numbered_at numbered_cells code_at map_down labels intervals low_end high_end block_sides blocks interval origin block_extents embed block_codes follows same_interval seam products seams map_of
cuts_listed = refl

-- The closed tables of each job.
pub jobs_listed : map joined_answer jobs ≡ map (λ v. v.joined.listed) jobs
unfolding jobs joined_answer consecutive tabulate zeros overlay merge_ids join_roots joins rep count_below leader number_by label ancestor root_of parent root refusal_number table first given_by stands_in stride volume index place is_extent off_size sides cells parity order voxel along upper_neighbours row_of row occupied active pairs alike edges_at order_below edges active_of number numbered_at numbered_cells code_at map_down labels of_order largest component row_at_first component_row ascends cut_list intervals low_end high_end block_sides blocks good_cut interval origin block_extents embed block_codes follows same_interval seam same_stage ticked count_of from_of node key_of first_at lengths_fit block_trays link_trays found_trays number_trays first_trays listed_trays kind_trays has_on has_cell products shared seams seam_axis seam_step steps_of next_stage finished next_after differs overfull full tally_fits tallies_fit counted standing map_stands ways_stand links_stand all_links_stand sound_at sound_way sound_from sound_below sound_range steps_within depth depths sound_ways rows_stand number_stands curves_stand handed_stands look_stands last_crossing stray final_of final_row point_cells adds declines refusal all_trays open_declines open_refusal nothing through_links joined_row first_of enrolled_key shifted enrolled_row block_entry not_after class_of is_one leads heads rank head_of row_at final_face row_final relinked at_seam seam_edge seam_edges at_crossing cross_edge cross_edges_at cross_edges instead number_kind moved enrol_tables seam_tables cross_tables cross_last crossed point_tables point_last pointed accepted_state after fresh_job cleared opened_state run used map_of steps contents outcome joined_up
jobs_listed = refl
