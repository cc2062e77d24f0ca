-- The premises on the calls alone are met by the list of Example, whose schedule has five packets: its first six calls queue no data and
-- leave the base at 100, and each packet queued after them is of the schedule.
use Rattle.std.specs.Prelude.{◌≡◌, refl, List, [], ◌∷◌, ◌<◌, take, drop, None, Option, Some}
use Rattle.std.proofs.Common.{sym, ap, ◌∙◌, lit<}
use Rattle.srt_protocol.specs.Sequence.{half}
use Rattle.srt_group_model.specs.State.{State, next_receive_sequence}
use Rattle.srt_group_model.specs.Laws.Computed.{definitions}
use Rattle.srt_group_model.specs.Lent.{Call, call_add_member, call_mark_member_broken, call_remove_member_connection, call_refresh_member_states, call_disconnect, call_poll_event, call_poll_data_bounded, call_send, call_can_send, call_can_send_with_pacing, call_look, call_read_leg, call_queue_data, call_queue_event}
use Rattle.srt_group_model.specs.Laws.Reason.{none_some}
use Rattle.srt_group_model.specs.Tools.{All}
use Rattle.srt_group_traces.specs.Statement.{pass_to, Fair, Asked, do_call, Delivery, state_after, counts_of, with_payload}
use Rattle.srt_group_traces.specs.Laws.Example.{group, store_0, store_1, store_2, store_3, output, sends, planned, schedule, runs, calls, one_store}
use Rattle.srt_group_traces.specs.Laws.Cases.{Each, each_at}
use Rattle.srt_group_traces.specs.ShortSchedule.{QueuesNone, Scheduled, AllScheduled, FairCalls}
use Rattle.srt_group_traces.specs.Laws.ShortSchedule.{short_schedule_is_fair}
use Rattle.srt_group_model.specs.Calls.{new}

-- the packet that a call is given to queue
unfoldable to_queue : Call → Option Delivery
to_queue (call_add_member id weight leg queue) = None
to_queue (call_mark_member_broken id) = None
to_queue (call_remove_member_connection id) = None
to_queue call_refresh_member_states = None
to_queue (call_disconnect time) = None
to_queue (call_poll_event time) = None
to_queue (call_poll_data_bounded time max_events) = None
to_queue (call_send time payload) = None
to_queue call_can_send = None
to_queue (call_can_send_with_pacing time) = None
to_queue (call_look look) = None
to_queue (call_read_leg id field n) = None
to_queue (call_queue_data id content payload) = Some (with_payload content payload)
to_queue (call_queue_event id kind reason) = None

no_data : (calls : List Asked) → All (λ (asked : Asked). to_queue asked.call ≡ None) calls → All QueuesNone calls
unfolding to_queue
no_data [] h = tt
no_data (asked ∷ calls) h = ((λ id d payload e. none_some (sym h.0 ∙ ap to_queue e)), no_data calls h.1)

all_scheduled : (calls : List Asked) (s : State) → All (λ (asked : Asked). Each (Scheduled schedule) (to_queue asked.call)) calls
    → AllScheduled schedule calls s
unfolding to_queue
all_scheduled [] s h = tt
all_scheduled (asked ∷ calls) s h =
    ((λ id d payload e accepted. each_at (Scheduled schedule) (to_queue asked.call) _ (ap to_queue e) h.0), all_scheduled calls (do_call asked s).state h.1)

-- the first at place 0 of the schedule, the second at 1, the third at 4
packets_scheduled : All (λ (asked : Asked). Each (Scheduled schedule) (to_queue asked.call)) calls
unfolding definitions store_0 store_1 store_2 store_3 output sends schedule calls pass_to to_queue
packets_scheduled = (tt, (tt, (tt, (tt, (tt, (tt, ((0, planned 101 2 (65 ∷ 66 ∷ []) ∷ planned 103 1 (67 ∷ []) ∷ planned 104 1 (68 ∷ []) ∷ [], refl), ((1, planned 103 1 (67 ∷ []) ∷ planned 104 1 (68 ∷ []) ∷ [], refl), (tt, (tt, (tt, ((4, [], refl), (tt, (tt, (tt, (tt, (tt, tt)))))))))))))))))

first_six : All (λ (asked : Asked). to_queue asked.call ≡ None) (take 6 calls)
unfolding calls to_queue
first_six = (refl, (refl, (refl, (refl, (refl, (refl, tt))))))

base_set_to_100 : next_receive_sequence (state_after (take 6 calls) (new group)).receive ≡ Some 100
unfolding definitions group store_0 store_1 store_2 store_3 output sends calls do_call state_after
base_set_to_100 = refl

five_packets : counts_of schedule < half
unfolding schedule counts_of half
five_packets = lit< tt

pub fair_calls : FairCalls schedule 100 group (take 6 calls) (drop 6 calls)
unfolding calls
fair_calls =
    record {
      short = five_packets;
      none_queued = no_data (take 6 calls) first_six;
      set = base_set_to_100;
      scheduled = all_scheduled calls (new group) packets_scheduled;
      store = store_0;
      one_store = one_store;
    }

pub fair_by_calls : Fair schedule 100 group calls
unfolding calls
fair_by_calls = short_schedule_is_fair schedule 100 runs group (take 6 calls) (drop 6 calls) fair_calls
