-- The definitions give the numbers listed for the starred volumes and Figure 5b: one theorem over the table, computed.
-- Assumes nothing.
use mathlib.Core.Path.{◌≡◌, refl}
use mathlib.Core.List.{map}
use Rattle.lists.specs.Lists.{consecutive, tabulate, zeros, overlay}
use Rattle.closure.specs.Joined.{merge_ids, join_classes as join_roots, joins, rep}
use Rattle.closure.specs.Numbered.{count_below, leader, number_by, label}
use Rattle.closure.specs.Trees.{ancestor, root_of}
use Rattle.union_find.specs.Links.{parent, root, sound_at, sound_way, sound_from, sound_below, sound_range, steps_within, depth, depths, sound_ways}
use Rattle.refusals.specs.Refusals.{number as refusal_number, table, first, given_by, stands_in}
use Rattle.cells.specs.Box.{stride, volume, index, place}
use Rattle.cells.specs.Extents.{is_extent, off_size}
use Rattle.cells.specs.Grid.{sides, cells, parity, order, along, upper_neighbours, voxel}
use Rattle.cells.specs.Row.{row_of, occupied, row, active}
use Rattle.labels.specs.Number.{pairs, alike, edges_at, order_below, edges, active_of, number, numbered_at, numbered as numbered_of, code_at, map_down, labels}
use Rattle.labels.specs.Components.{of_order, largest, component, row_at_first, component_row}
use Rattle.labeller.specs.Labelling.{wrong_tray, declines as label_declines, refusal_of, accepted, refused, labelling}
use Rattle.cutting.specs.Cutting.{ascends, cut_list, intervals, low_end, high_end, block_sides, blocks, good_cut, interval, origin, block_extents, embed, block_codes, follows, same_interval, seam}
use Rattle.joiner.specs.Job.{same_stage, ticked, count_of, from_of, node, key_of, first_at, lengths_fit, block_trays, link_trays, found_trays, number_trays, first_trays, listed_trays, kind_trays}
use Rattle.joiner.specs.Stages.{has_on, has_cell, products, shared, seams, seam_axis, seam_step, steps_of, next_stage, finished, next_after}
use Rattle.joiner.specs.Calls.{differs, overfull, full}
use Rattle.joiner.specs.Declines.{tally_fits, tallies_fit, counted, standing, map_stands, ways_stand, links_stand, all_links_stand, rows_stand, number_stands, curves_stand, handed_stands, look_stands, last_crossing, stray, final_of, final_row, point_cells, adds, declines, refusal}
use Rattle.joiner.specs.Outcomes.{all_trays, open_declines, open_refusal, nothing, through_links, joined_row, first_of, enrolled_key, shifted, enrolled_row, block_entry, not_after, class_of, is_one, leads, heads, rank, head_of, row_at, final_face, row_final}
use Rattle.theory_model.specs.Model.{relinked, at_seam, seam_edge, seam_edges, at_crossing, cross_edge, cross_edges_at, cross_edges, instead, number_kind, moved, enrol_tables, seam_tables, cross_tables, cross_last, crossed, point_tables, point_last, pointed, accepted_state, after, fresh_job, cleared, opened_state}
use Rattle.theory_model.specs.Scripts.{run, used, map_of, steps, contents, outcome, joined_up}
use Rattle.theory_volumes.specs.Volumes.{positions_and_rows, closed_job, answer, line, line_codes, columns, column_codes, cube, figure, zero_codes, hole, core_cut, core_codes, volumes}

pub volumes_listed : map (λ v. answer v.question) volumes ≡ map (λ v. v.listed) volumes
unfolding volumes answer positions_and_rows closed_job line line_codes columns column_codes cube figure zero_codes hole core_cut core_codes wrong_tray label_declines refusal_of accepted refused labelling consecutive tabulate zeros overlay merge_ids join_roots joins rep count_below leader number_by label ancestor root_of parent root refusal_number table first given_by stands_in stride volume index place is_extent off_size sides cells parity order voxel along upper_neighbours row_of row occupied active pairs alike edges_at order_below edges active_of number numbered_at numbered_of code_at map_down labels of_order largest component row_at_first component_row ascends cut_list intervals low_end high_end block_sides blocks good_cut interval origin block_extents embed block_codes follows same_interval seam same_stage ticked count_of from_of node key_of first_at lengths_fit block_trays link_trays found_trays number_trays first_trays listed_trays kind_trays has_on has_cell products shared seams seam_axis seam_step steps_of next_stage finished next_after differs overfull full tally_fits tallies_fit counted standing map_stands ways_stand links_stand all_links_stand sound_at sound_way sound_from sound_below sound_range steps_within depth depths sound_ways rows_stand number_stands curves_stand handed_stands look_stands last_crossing stray final_of final_row point_cells adds declines refusal all_trays open_declines open_refusal nothing through_links joined_row first_of enrolled_key shifted enrolled_row block_entry not_after class_of is_one leads heads rank head_of row_at final_face row_final relinked at_seam seam_edge seam_edges at_crossing cross_edge cross_edges_at cross_edges instead number_kind moved enrol_tables seam_tables cross_tables cross_last crossed point_tables point_last pointed accepted_state after fresh_job cleared opened_state run used map_of steps contents outcome joined_up
volumes_listed = refl
