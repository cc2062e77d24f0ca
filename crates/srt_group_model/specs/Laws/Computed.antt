-- All definitions at once, for examples that are computed: a proof that unfolds `definitions` unfolds whatever its line names.
use Rattle.srt_protocol.specs.Circle.{distance, before, further}
use Rattle.srt_protocol.specs.Sequence.{half}
use Rattle.srt_protocol.specs.Cells.{overwritten}
use Rattle.srt_group_model.specs.Tools.{if_true◌then◌else◌, if_some◌give◌otherwise◌, bit, or_else, flagged, is_empty, any, all, such_that, first_such, place_of, at_place, change, without_place, each, total, first_given}
use Rattle.srt_group_model.specs.Legs.{can_send, can_send_with_pacing, oldest_unacked_sequence, gives_up_at, send_shared_with_sequence, synchronize_send_sequence, readings, reading_of, goes_back}
use Rattle.srt_group_model.specs.Members.{is_active, is_standby, outranks, first_in_rank, promotion, promote_backup_member, promote_if_none, arrives, base_after, peer_after, admit_peer_group, alignment_source, align_leg, align_member_sequence, steps_from, turn_aligned, settle, requalify, settle_members, break_disconnected, requalify_members, sequence_brought, group_brought, found}
use Rattle.srt_group_model.specs.Nearest.{insert, lowest, nearest, farther, farthest}
use Rattle.srt_group_model.specs.Run.{set_base, admit_connected_peer_groups, refresh_pending_states, refresh_states}
use Rattle.srt_group_model.specs.Collecting.{is_late, is_discarded, retain_group_packet, report_event, collect_member_event, in_turn, take_front, collect_one_event, has_pending_data, collect_until_held, collect_until_empty}
use Rattle.srt_group_model.specs.Delivery.{leg_gives_up, gap_given_up, release_pending_reservation, release_all, pass_run, advance_legs, deliver_packet, deliver, skip_to, give_waiting, skip_after, skip_given_up_gap, base_stays}
use Rattle.srt_group_model.specs.Polls.{deliver_next, poll_event, pass_events, poll_until_data, poll_data_bounded}
use Rattle.srt_group_model.specs.Removal.{own_packet, largest_window, retire, bound_group_owned_pending, retirement_base, take_out, remove_member_at}
use Rattle.srt_group_model.specs.Sending.{◌and_then◌, mark_send_failure, sequence_for_send, sequence_mismatch, above_limit, takes_send, attempt_send, send_broadcast}
use Rattle.srt_group_model.specs.Backup.{stability_timeout, is_stale, demote_stale_backup_carrier, drop_before, starts_after, trim_backup_history, trim_by_carrier, append_history, record_backup_send, takes_over, replay_entries, replay_on, replay_flight, align_carrier, take_over_backup_flight, send_own, send_after_promotion, send_at_place, send_backup, backup_member_ready, backup_send_ready, least_time, group_time_until_send}
use Rattle.srt_group_model.specs.Cells.{queue_cells, queued_cells, used_cells, lowest_free, free_cell}
use Rattle.srt_group_model.specs.Validity.{any_above, data_words, leg_words, membership_words, is_blank, counts, count_above_limit, leg_sequence_too_large, event_sequence_too_large, member_sequence_too_large, sequence_too_large, one_twice, id_twice, ascends, held_sequence_twice, cell_twice, cell_beyond_store, member_sum_wrong, is_unreserved, reserved_sum_wrong, data_out_of_range, event_out_of_range, leg_out_of_range, membership_out_of_range, member_out_of_range, making_words, group_words, record_out_of_range, event_words, packet_words, packet_out_of_range, entry_words, entry_out_of_range, waiting_words, waiting_out_of_range, field_out_of_range, rules_outside_cells, rules_of_cells, broken_rules, is_invalid}
use Rattle.srt_group_model.specs.Guards.{guard}
use Rattle.srt_group_model.specs.Calls.{store_unfit, cells_given, of_member, change_member, new, new_code, state_at_addition, new_member, add_body, add_member, mark_member_broken, remove_body, remove_member_connection, member, refresh_member_states, disconnect, event_poll_body, poll_event_call, data_poll_body, poll_data_call, left_by_send, send_flow, send_body, send, can_send_body, can_send_call, can_send_with_pacing_body, can_send_with_pacing_call, time_until_send, backup_stability_timeout_micros, group_id, members_call, mode, peer_group_id, skipped_receive_packets, has_pending_data_call, has_receive_continuation, look_checks, reading_out_of_range, read_field, read_leg, queue_data_body, data_unfit, queue_data, queue_event}
use Rattle.srt_group_model.specs.Lent.{stored, delivered_by, written_out, list_rows, with_bytes, look_at, step_of, perform, looking}
use Rattle.srt_group_model.specs.Listing.{verbs, columns, printed, tell_new, tell_verb, tell, replay_from, replay}

unfoldable pub definitions : Unit {0}
unfolding if_true◌then◌else◌ if_some◌give◌otherwise◌ bit or_else flagged is_empty any all such_that first_such first_given place_of at_place change without_place each total can_send can_send_with_pacing oldest_unacked_sequence gives_up_at send_shared_with_sequence synchronize_send_sequence readings reading_of goes_back is_active is_standby outranks first_in_rank promotion promote_backup_member promote_if_none found arrives sequence_brought group_brought base_after peer_after admit_peer_group alignment_source align_leg align_member_sequence steps_from turn_aligned settle requalify settle_members break_disconnected requalify_members insert lowest nearest farther farthest set_base admit_connected_peer_groups refresh_pending_states refresh_states is_late is_discarded retain_group_packet report_event collect_member_event in_turn take_front collect_one_event has_pending_data collect_until_held collect_until_empty leg_gives_up gap_given_up release_pending_reservation release_all pass_run advance_legs deliver_packet deliver skip_to give_waiting skip_after base_stays skip_given_up_gap deliver_next poll_event pass_events poll_until_data poll_data_bounded own_packet largest_window retire bound_group_owned_pending retirement_base take_out remove_member_at ◌and_then◌ mark_send_failure sequence_for_send sequence_mismatch above_limit takes_send attempt_send send_broadcast stability_timeout is_stale demote_stale_backup_carrier drop_before starts_after trim_backup_history trim_by_carrier append_history record_backup_send takes_over replay_entries replay_on replay_flight align_carrier take_over_backup_flight send_own send_after_promotion send_at_place send_backup backup_member_ready backup_send_ready least_time group_time_until_send queue_cells queued_cells used_cells lowest_free free_cell is_blank counts count_above_limit leg_sequence_too_large event_sequence_too_large member_sequence_too_large sequence_too_large one_twice id_twice ascends held_sequence_twice cell_twice cell_beyond_store member_sum_wrong is_unreserved reserved_sum_wrong data_out_of_range event_out_of_range leg_out_of_range membership_out_of_range member_out_of_range any_above data_words leg_words membership_words making_words group_words record_out_of_range event_words packet_words packet_out_of_range entry_words entry_out_of_range waiting_words waiting_out_of_range field_out_of_range rules_outside_cells rules_of_cells broken_rules is_invalid guard store_unfit cells_given of_member change_member new new_code state_at_addition new_member add_body add_member mark_member_broken remove_body remove_member_connection member refresh_member_states disconnect event_poll_body poll_event_call data_poll_body poll_data_call left_by_send send_flow send_body send can_send_body can_send_call can_send_with_pacing_body can_send_with_pacing_call time_until_send backup_stability_timeout_micros group_id members_call mode peer_group_id skipped_receive_packets has_pending_data_call has_receive_continuation look_checks reading_out_of_range read_field read_leg queue_data_body data_unfit queue_data queue_event stored delivered_by written_out list_rows with_bytes looking look_at step_of perform verbs columns printed tell_new tell_verb tell replay_from replay distance before further half overwritten
definitions = tt
