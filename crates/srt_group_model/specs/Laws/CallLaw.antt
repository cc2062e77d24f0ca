-- What a call can do, move by move. A property of the state, of the cell in hand and of the log, that each of these moves keeps, is
-- kept by every call: EveryCall has the one walk, and the laws of validity are instances.
use Rattle.std.specs.Prelude.{◌≡◌, Bool, true, false, List, [], ◌∷◌, ◌++◌, ℕ, suc, ◌%◌, ◌≤◌, ◌<◌, eqb, length, drop, None, Option, Some}
use Rattle.srt_protocol.specs.Cells.{cell_size, cells_of}
use Rattle.srt_protocol.specs.Sequence.{sequence_distance, sequence_further}
use Rattle.srt_group_model.specs.Tools.{any, such_that, at_place, change}
use Rattle.srt_group_model.specs.State.{Member, State, next_receive_sequence, next_send_sequence, with_receive, with_send, with_members, with_waiting, with_peer, with_base, with_pending, with_continuation, with_round, with_leg, on_leg, on_membership, turned, with_admitted, with_collision, broken_state, on_account}
use Rattle.srt_group_model.specs.Accounts.{reserve}
use Rattle.srt_group_model.specs.Legs.{largest_16, largest_32, largest_64, goes_back, handed, peer_initial_sequence, send_shared_with_sequence, synchronize_send_sequence, release_data_reservation, add_reservation, advance_receive_sequence, disconnect_leg}
use Rattle.srt_group_model.specs.Members.{id_of, has_id, in_state, arrives, alignment_source, align_leg}
use Rattle.srt_group_model.specs.Nearest.{sequence_of, is_held, held_at, insert, nearest, farthest}
use Rattle.srt_group_model.specs.Run.{Mark, put, base_set, collected, gap_skipped, delivered}
use Rattle.srt_group_model.specs.Collecting.{is_discarded, front}
use Rattle.srt_group_model.specs.Delivery.{skip_to, deliver_packet}
use Rattle.srt_group_model.specs.Removal.{is_owned, retire, take_out}
use Rattle.srt_group_model.specs.Sending.{with_send_number}
use Rattle.srt_group_model.specs.Backup.{trim_backup_history, append_history}
use Rattle.srt_group_model.specs.Validity.{above, max_members, max_waiting, leg_out_of_range, leg_sequence_too_large}
use Rattle.srt_group_model.specs.Calls.{no_free_cell, taken_cell, new_member, reading_out_of_range, read_field, queue_full, enqueue, data_event, data_unfit, lifecycle_event}
use Rattle.srt_group_model.specs.Lent.{Call, call_add_member, call_remove_member_connection, call_queue_data, call_queue_event, Lent, call_poll_event, call_poll_data_bounded, call_send, step_of}
use Rattle.srt_group_model.specs.Laws.Queues.{pop, packet_of, waiting_of}
use Rattle.srt_group_model.specs.declared.Data.{Data}
use Rattle.srt_group_model.specs.declared.Event.{Event}
use Rattle.srt_group_model.specs.declared.Entry.{Entry}
use Rattle.srt_group_model.specs.declared.Packet.{Packet}
use Rattle.srt_group_model.specs.declared.Leg.{Leg}
use Rattle.srt_group_model.specs.Cells.{used_cells, is_among}

-- ---- what can become of one member's label or leg: its id, its queue and its sums stay

pub data MemberMove (s : State) (m : Member) : Member → Type 0 where
  unmoved : MemberMove s m m
  -- it turns to another state; none leaves Broken
  turn : (n : ℕ) → n ≤ 4 → (in_state broken_state m ≡ true → n ≡ broken_state) → MemberMove s m (turned n m)
  -- it is admitted, or it answered from another group
  admission : arrives m ≡ true → MemberMove s m (on_membership with_admitted m)
  colliding : arrives m ≡ true → MemberMove s m (on_membership (with_collision s.peer m.leg.link.peer) m)
  -- its leg is aligned with the group's numbers, or brought to the first of the history
  alignment : (sequence : ℕ) (l : Leg) → alignment_source (next_send_sequence s.send) (id_of m) s.members ≡ Some sequence
      → align_leg sequence m.leg ≡ Some l → MemberMove s m (with_leg l m)
  catching_up : (e : Entry) (l : Leg) → at_place 0 s.send.history ≡ Some e → synchronize_send_sequence e.sequence m.leg ≡ Some l
      → MemberMove s m (with_leg l m)
  -- its leg sends, ends, reports a reading, or records how far the group has come
  leg_send : (time size sequence : ℕ) (l : Leg) → time ≤ largest_64 → send_shared_with_sequence time size sequence m.leg ≡ Some l
      → MemberMove s m (with_leg l m)
  leg_end : MemberMove s m (on_leg disconnect_leg m)
  leg_reading : (field n : ℕ) → reading_out_of_range field n ≡ false → goes_back field n m.leg ≡ false → MemberMove s m (on_leg (read_field field n) m)
  advance : (base count : ℕ) → MemberMove s m (on_leg (advance_receive_sequence (sequence_further base count)) m)

-- ---- what the guards of an addition and of a queued packet let through

pub record Joining (id weight : ℕ) (l : Leg) (s : State) : Type 0 where
  pub fresh : any (has_id id) s.members ≡ false
  pub room : length s.members < max_members
  pub unreserved : l.receiver.reserved ≡ 0
  pub id_fits : id ≤ largest_32
  pub weight_fits : weight ≤ largest_16
  pub leg_fits : leg_out_of_range (handed l) ≡ false
  pub sequences_fit : leg_sequence_too_large l ≡ false

-- where a base comes from: the first sequence of a member that arrives, or the nearest held packet
pub data BaseSource (s : State) (b : ℕ) : Type 0 where
  first_of : (i : ℕ) (m : Member) → at_place i s.members ≡ Some m → arrives m ≡ true → peer_initial_sequence m.leg ≡ Some b → BaseSource s b
  nearest_held : (p : Packet) → nearest s.receive.pending ≡ Some p → sequence_of p ≡ b → BaseSource s b

-- the front event of the member at a place
pub record InFront (s : State) (i : ℕ) (m : Member) (e : Event) : Type 0 where
  pub stands : at_place i s.members ≡ Some m
  pub first : front m.queue ≡ Some e

-- it is taken from its queue and waits
abbrev pub reported : ℕ → Member → Event → State → State
reported i m e s =
    with_waiting (s.waiting ++ (waiting_of m e ∷ [])) (with_members (change i pop s.members) s)

-- ---- the moves

-- A cell in hand is one that the call has taken and nothing names yet. What a refresh does, and sends, readings and marks do to members:
pub record RefreshLaw (P : Option ℕ → State → List Mark → Type 0) : Type 0 where
  -- a member's label or leg moves
  pub moves : {hand : Option ℕ} {log : List Mark} (s : State) (i : ℕ) (m : Member) (f : Member → Member) → at_place i s.members ≡ Some m
      → MemberMove s m (f m) → P hand s log → P hand (with_members (change i f s.members) s) log
  -- the group, bound to none, is bound to the peer that a member answers from
  pub binds : {hand : Option ℕ} {log : List Mark} (s : State) (i : ℕ) (m : Member) → at_place i s.members ≡ Some m → arrives m ≡ true → eqb s.peer 0 ≡ true
      → P hand s log → P hand (with_peer m.leg.link.peer s) log
  -- the base is set, once
  pub sets_base : {hand : Option ℕ} {log : List Mark} (s : State) (b : ℕ) → next_receive_sequence s.receive ≡ None → BaseSource s b
      → P hand s log → P hand (with_receive (with_base b s.receive) s) (base_set b ∷ log)

-- what collecting does besides
pub record CollectLaw (P : Option ℕ → State → List Mark → Type 0) : Type 0 where
  -- the continuation is asked for, or not; the round turns to the next member
  pub continues : {hand : Option ℕ} {log : List Mark} (s : State) (b : Bool) → P hand s log → P hand (with_continuation b s) log
  pub turns : {hand : Option ℕ} {log : List Mark} (s : State) (i : ℕ) (m : Member) → at_place i s.members ≡ Some m
      → P hand s log → P hand (with_round (suc i % length s.members) s) log
  -- a packet is collected, and discarded or held
  pub discards : {hand : Option ℕ} {log : List Mark} (s : State) (i : ℕ) (m : Member) (e : Event) → InFront s i m e → eqb e.kind 0 ≡ true
      → is_discarded (packet_of m e) s.receive ≡ true
      → P hand s log → P hand (with_members (change i (λ x. on_leg (release_data_reservation e.content.count) (pop x)) s.members) s) (collected (packet_of m e) ∷ log)
  pub holds : {hand : Option ℕ} {log : List Mark} (s : State) (i : ℕ) (m : Member) (e : Event) → InFront s i m e → eqb e.kind 0 ≡ true
      → is_discarded (packet_of m e) s.receive ≡ false
      → P hand s log
      → P hand (with_receive (with_pending (insert (packet_of m e) s.receive.pending) s.receive)
      (with_members (change i (λ x. on_account (reserve e.content.count) (pop x)) s.members) s)) (collected (packet_of m e) ∷ log)
  -- an event is collected and waits, while fewer than 64 do
  pub reports : {hand : Option ℕ} {log : List Mark} (s : State) (i : ℕ) (m : Member) (e : Event) → InFront s i m e → eqb e.kind 0 ≡ false → length s.waiting < max_waiting
      → P hand s log
      → P hand (reported i m e s) log

-- and what a poll does
pub record PollLaw (P : Option ℕ → State → List Mark → Type 0) : Type 0 where
  -- the first event that waits is given
  pub gives : {hand : Option ℕ} {log : List Mark} (s : State) → P hand s log → P hand (with_waiting (drop 1 s.waiting) s) log
  -- a gap before the nearest packet is skipped, the base not being held
  pub skips : {hand : Option ℕ} {log : List Mark} (s : State) (base : ℕ) (p : Packet) (tested : State) (time : ℕ)
      → next_receive_sequence s.receive ≡ Some base → is_held base s.receive.pending ≡ false → nearest s.receive.pending ≡ Some p
      → P hand s log
      → P hand (with_receive (skip_to base (sequence_of p) s.receive) s) (gap_skipped tested time (sequence_distance base (sequence_of p)) ∷ log)
  -- the packet at the base is delivered
  pub delivers : {hand : Option ℕ} {log : List Mark} (s : State) (base : ℕ) (p : Packet) → next_receive_sequence s.receive ≡ Some base
      → held_at base s.receive.pending ≡ Some p
      → P hand s log → P hand (deliver_packet base p s) (delivered p ∷ log)

-- a call as it begins: how many cells it has, the state that it begins with, and the code with which it will end
pub record Calling : Type 0 where
  pub call : Call
  pub cells : ℕ
  pub from : State
  pub code : ℕ

abbrev pub calling : (store output list : ℕ) → Call → State → Calling
calling store output list c s = record { call = c; cells = cells_of store; from = s; code = (step_of store output list c s).code }

abbrev pub called : Call → Lent → State → Calling
called c lent s = calling (length lent.store) (length lent.output) (length lent.list) c s

-- the calls that collect, give, skip and deliver
pub data Polls (c : Call) : Type 0 where
  polls_events : (time : ℕ) → c ≡ call_poll_event time → Polls c
  polls_packets : (time max_events : ℕ) → c ≡ call_poll_data_bounded time max_events → Polls c

-- the calls that take a cell for a payload: data is queued, or sent in Backup
pub data TakesCell (c : Call) (payload : List ℕ) : Type 0 where
  queues_it : (id : ℕ) (d : Data) → c ≡ call_queue_data id d payload → TakesCell c payload
  sends_it : (time : ℕ) → c ≡ call_send time payload → TakesCell c payload

-- what a call does besides
pub record CallLaw (k : Calling) (P : Option ℕ → State → List Mark → Type 0) : Type 0 where
  pub refreshing : RefreshLaw P
  pub collecting : Polls k.call → CollectLaw P
  pub polling : Polls k.call → PollLaw P
  -- a member joins
  pub joins : {hand : Option ℕ} {log : List Mark} (s : State) (id weight : ℕ) (l : Leg) (queue : List Event) → k.call ≡ call_add_member id weight l queue → Joining id weight l s
      → P hand s log → P hand (with_members (s.members ++ (new_member id weight (handed l) s ∷ [])) s) log
  -- a member leaves, and its held packets become the group's; one of the group's own packets is retired
  pub leaves : {hand : Option ℕ} {log : List Mark} (s : State) (i : ℕ) (m : Member) → k.call ≡ call_remove_member_connection (id_of m) → at_place i s.members ≡ Some m
      → P hand s log → P hand (take_out i m s) log
  pub retires : {hand : Option ℕ} {log : List Mark} (s : State) (id base : ℕ) (p : Packet) → k.call ≡ call_remove_member_connection id → farthest base (such_that is_owned s.receive.pending) ≡ Some p
      → P hand s log → P hand (retire p s) log
  -- at the beginning a cell is taken in hand; the payload of an accepted call is put into it, while nothing uses it; it is let go
  pub takes : (payload : List ℕ) → TakesCell k.call payload → no_free_cell k.cells k.from ≡ false
      → P None k.from [] → P (Some (taken_cell k.cells k.from)) k.from []
  pub puts : {log : List Mark} (s : State) (cell : ℕ) (payload : List ℕ) → TakesCell k.call payload → k.code ≡ 0 → length payload ≤ cell_size → is_among cell (used_cells s) ≡ false
      → P (Some cell) s log → P (Some cell) s (put cell payload ∷ log)
  pub lets_go : {log : List Mark} (s : State) (cell : ℕ) → P (Some cell) s log → P None s log
  -- the packet whose payload was put is queued; an event is queued
  pub queues_data : {log : List Mark} (s : State) (i : ℕ) (m : Member) (cell : ℕ) (d : Data) (payload : List ℕ) → k.call ≡ call_queue_data (id_of m) d payload → k.code ≡ 0
      → at_place i s.members ≡ Some m → queue_full m ≡ false → data_unfit (id_of m) d ≡ false → length payload ≤ cell_size → P (Some cell) s (put cell payload ∷ log)
      → P None (with_members (change i (λ x. on_leg (add_reservation d.count) (enqueue (data_event cell (length payload) d) x)) s.members) s) (put cell payload ∷ log)
  pub queues_event : {hand : Option ℕ} {log : List Mark} (s : State) (i : ℕ) (m : Member) (id kind reason : ℕ) → k.call ≡ call_queue_event id kind reason → at_place i s.members ≡ Some m
      → queue_full m ≡ false → eqb kind 0 ≡ false → above 3 kind ≡ false → above largest_32 reason ≡ false → P hand s log
      → P hand (with_members (change i (enqueue (lifecycle_event kind reason)) s.members) s) log
  -- the group's send number is set; the history takes the payload in hand, at its carrier's next number; it loses what a leg has had acknowledged
  pub numbers : {hand : Option ℕ} {log : List Mark} (s : State) (sequence : ℕ) → P hand s log → P hand (with_send_number (sequence_further sequence 1) s) log
  pub remembers : {log : List Mark} (s : State) (i : ℕ) (m : Member) (e : Entry) → at_place i s.members ≡ Some m → e.sequence ≡ m.leg.sender.next
      → e.length ≤ cell_size → e.source.0 ≤ largest_64
      → P (Some e.cell) s log → P None (with_send (append_history (id_of m) e s.send) s) log
  pub trims : {hand : Option ℕ} {log : List Mark} (s : State) (l : Leg) → P hand s log → P hand (with_send (trim_backup_history l s.send) s) log
