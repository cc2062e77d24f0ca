-- The calls with what they are lent: the store, the output and the list of sends. Document 01, "Receiving" and "The stand-in
-- leg": a payload is put into its cell and its other bytes stay; a delivered payload is written from byte 12 of the output,
-- the rest stays; the sends fill the list's first rows, the others stay.
use Rattle.std.specs.Prelude.{Bool, true, false, List, [], ◌∷◌, ℕ, ◌*◌, length, None, Option, Some}
use Rattle.srt_protocol.specs.Cells.{cell_size, head_size, overwritten, cell_bytes}
use Rattle.srt_group_model.specs.State.{State}
use Rattle.srt_group_model.specs.Run.{Mark}
use Rattle.srt_group_model.specs.Delivery.{nothing, event, packet, max_visits}
use Rattle.srt_group_model.specs.Sending.{Sent}
use Rattle.srt_group_model.specs.Guards.{Answer, no_answer, shown, polled, data_polled, leg_back, Put, Step, accept, guard, Looking}
use Rattle.srt_group_model.specs.Calls.{add_member, mark_member_broken, remove_member_connection, member, refresh_member_states, disconnect, poll_event_call, poll_data_call, send, can_send_call, can_send_with_pacing_call, time_until_send, backup_stability_timeout_micros, group_id, members_call, mode, peer_group_id, skipped_receive_packets, has_pending_data_call, has_receive_continuation, look_checks, read_leg, queue_data, queue_event}
use Rattle.srt_group_model.specs.declared.Data.{Data}
use Rattle.srt_group_model.specs.declared.Event.{Event}
use Rattle.srt_group_model.specs.declared.Packet.{Packet}
use Rattle.srt_group_model.specs.declared.Leg.{Leg}

-- the bytes of the store and of the output, and the numbers of the list, five a row
pub record Lent : Type 0 where
  pub store : List ℕ
  pub output : List ℕ
  pub list : List ℕ

-- the payload goes into its cell
unfoldable pub stored : Option Put → List ℕ → List ℕ
stored None store = store
stored (Some p) store = overwritten (p.cell * cell_size) p.payload store

-- the packet that an answer delivers
unfoldable pub delivered_by : Answer → Option Packet
delivered_by no_answer = None
delivered_by (shown x) = None
delivered_by (polled nothing) = None
delivered_by (polled (event w)) = None
delivered_by (polled (packet p)) = Some p
delivered_by (data_polled o more) = o
delivered_by (leg_back l) = None

-- the bytes of a packet's payload
abbrev pub payload_of : Packet → List ℕ → List ℕ
payload_of p = cell_bytes p.content.cell p.content.length

-- the output, with a delivered payload written over it from byte 12 on
unfoldable pub written_out : Option Packet → (store output : List ℕ) → List ℕ
written_out None store output = output
written_out (Some p) store output = overwritten head_size (payload_of p store) output

unfoldable pub list_rows : List Sent → List ℕ
list_rows [] = []
list_rows (r ∷ rs) = r.leg ∷ r.sequence ∷ r.cell ∷ r.source ∷ r.time ∷ list_rows rs

-- What a call leaves, with the bytes. `rows` is how many rows of the list it has filled.
pub record Result : Type 0 where
  pub state : State
  pub lent : Lent
  pub code : ℕ
  pub answer : Answer
  pub rows : ℕ
  pub log : List Mark

-- a delivered payload is that of the store as it was lent: no call that delivers puts one
unfoldable pub with_bytes : Lent → Step → Result
with_bytes lent step =
    record {
      state = step.state;
      lent =
          record {
            store = stored step.put lent.store;
            output = written_out (delivered_by step.answer) lent.store lent.output;
            list = overwritten 0 (list_rows step.sends) lent.list;
          };
      code = step.code;
      answer = step.answer;
      rows = length step.sends;
      log = step.log;
    }

-- ---- all calls but `new`

-- the calls that only look
pub data Look : Type 0 where
  look_member : (id : ℕ) → Look
  look_time_until_send : (time : ℕ) → Look
  look_backup_stability_timeout_micros : (id : ℕ) → Look
  look_group_id : Look
  look_members : Look
  look_mode : Look
  look_peer_group_id : Look
  look_skipped_receive_packets : Look
  look_has_pending_data : Look
  look_has_receive_continuation : Look

unfoldable pub looking : Look → Looking
looking (look_member id) = member id
looking (look_time_until_send time) = time_until_send time
looking (look_backup_stability_timeout_micros id) = backup_stability_timeout_micros id
looking look_group_id = group_id
looking look_members = members_call
looking look_mode = mode
looking look_peer_group_id = peer_group_id
looking look_skipped_receive_packets = skipped_receive_packets
looking look_has_pending_data = has_pending_data_call
looking look_has_receive_continuation = has_receive_continuation

-- What every look does: it refuses, or shows; either way nothing changes.
unfoldable pub look_at : Look → State → Step
look_at look s = guard (look_checks (looking look).about s) s (accept s (shown ((looking look).shows s)))

pub data Call : Type 0 where
  call_add_member : (id weight : ℕ) → Leg → (queue : List Event) → Call
  call_mark_member_broken : (id : ℕ) → Call
  call_remove_member_connection : (id : ℕ) → Call
  call_refresh_member_states : Call
  call_disconnect : (time : ℕ) → Call
  call_poll_event : (time : ℕ) → Call
  call_poll_data_bounded : (time max_events : ℕ) → Call
  call_send : (time : ℕ) (payload : List ℕ) → Call
  call_can_send : Call
  call_can_send_with_pacing : (time : ℕ) → Call
  call_look : Look → Call
  call_read_leg : (id field n : ℕ) → Call
  call_queue_data : (id : ℕ) → Data → (payload : List ℕ) → Call
  call_queue_event : (id kind reason : ℕ) → Call

-- What a call is lent: a store (queueing data, the polls and sends), an output (the polls), the list (sends); and the time of a poll.
pub record Takes : Type 0 where
  pub store : Bool
  pub output : Bool
  pub list : Bool
  pub time : ℕ

abbrev pub taking : (store output list : Bool) (time : ℕ) → Takes
taking store output list time = record { store = store; output = output; list = list; time = time }

abbrev pub takes : Call → Takes
takes (call_add_member id weight l queue) = taking false false false 0
takes (call_mark_member_broken id) = taking false false false 0
takes (call_remove_member_connection id) = taking false false false 0
takes call_refresh_member_states = taking false false false 0
takes (call_disconnect time) = taking false false false 0
takes (call_poll_event time) = taking true true false time
takes (call_poll_data_bounded time max_events) = taking true true false time
takes (call_send time payload) = taking true false true 0
takes call_can_send = taking false false false 0
takes (call_can_send_with_pacing time) = taking false false false 0
takes (call_look look) = taking false false false 0
takes (call_read_leg id field n) = taking false false false 0
takes (call_queue_data id d payload) = taking true false false 0
takes (call_queue_event id kind reason) = taking false false false 0

-- `poll_data`
abbrev pub call_poll_data : (time : ℕ) → Call
call_poll_data time = call_poll_data_bounded time max_visits

-- a call, lent a store, an output and a list of these lengths
unfoldable pub step_of : (store output list : ℕ) → Call → State → Step
step_of store output list (call_add_member id weight l queue) s = add_member id weight l queue s
step_of store output list (call_mark_member_broken id) s = mark_member_broken id s
step_of store output list (call_remove_member_connection id) s = remove_member_connection id s
step_of store output list call_refresh_member_states s = refresh_member_states s
step_of store output list (call_disconnect time) s = disconnect time s
step_of store output list (call_poll_event time) s = poll_event_call store output time s
step_of store output list (call_poll_data_bounded time max_events) s = poll_data_call store output time max_events s
step_of store output list (call_send time payload) s = send store list time payload s
step_of store output list call_can_send s = can_send_call s
step_of store output list (call_can_send_with_pacing time) s = can_send_with_pacing_call time s
step_of store output list (call_look look) s = look_at look s
step_of store output list (call_read_leg id field n) s = read_leg id field n s
step_of store output list (call_queue_data id d payload) s = queue_data store id d payload s
step_of store output list (call_queue_event id kind reason) s = queue_event id kind reason s

unfoldable pub perform : Call → Lent → State → Result
perform call lent s =
    with_bytes lent (step_of (length lent.store) (length lent.output) (length lent.list) call s)
