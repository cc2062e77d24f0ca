-- Collecting from the legs, in turn: `collect_one_event`, `collect_member_event`, `retain_group_packet`, and the two loops of
-- visits. Document 01, "Polling" and "A collected packet is discarded".
use Rattle.std.specs.Prelude.{Bool, true, false, not, ◌&&◌, ◌||◌, List, [], ◌∷◌, ◌++◌, ℕ, zero, suc, ◌+◌, ◌-◌, ◌%◌, leb, eqb, length, drop, Option, Some}
use Rattle.srt_protocol.specs.Sequence.{sequence_before}
use Rattle.srt_group_model.specs.Tools.{if_true◌then◌else◌, if_some◌give◌otherwise◌, is_set, is_empty, place_of, at_place, change}
use Rattle.srt_group_model.specs.State.{Member, Receive, State, is_backup, next_receive_sequence, with_receive, with_members, with_waiting, with_pending, with_continuation, with_round, on_leg, with_queue, turned, broken_state, on_account}
use Rattle.srt_group_model.specs.Accounts.{reserve}
use Rattle.srt_group_model.specs.Legs.{release_data_reservation}
use Rattle.srt_group_model.specs.Members.{id_of, promote_backup_member}
use Rattle.srt_group_model.specs.Nearest.{sequence_of, is_held, insert}
use Rattle.srt_group_model.specs.Run.{Run, on_state, collected}
use Rattle.srt_group_model.specs.declared.Event.{Event}
use Rattle.srt_group_model.specs.declared.Packet.{Packet}
use Rattle.srt_group_model.specs.declared.Waiting.{Waiting}

-- ---- collecting

-- what an event in front of a member's queue becomes: a packet, or an event that waits
abbrev pub packet_from : (id : ℕ) → Event → Packet
packet_from id e = record { member = id; owned = 0; content = e.content }

abbrev pub waiting_from : (id : ℕ) → Event → Waiting
waiting_from id e = record { member = id; kind = e.kind; reason = e.reason }

-- the packet is before the base
unfoldable pub is_late : Packet → Receive → Bool
is_late p x = if_some next_receive_sequence x give (λ base. sequence_before (sequence_of p) base) otherwise false

-- a collected packet is discarded if it is before the base or its sequence is held
unfoldable pub is_discarded : Packet → Receive → Bool
is_discarded p x = is_late p x || is_held (sequence_of p) x.pending

-- the packet of the member at a place is retained, and its reservation with it, or discarded, and the leg released
unfoldable pub retain_group_packet : ℕ → Packet → State → State
retain_group_packet i p s =
    if_true is_discarded p s.receive
    then with_members (change i (on_leg (release_data_reservation p.content.count)) s.members) s
    else
    with_receive (with_pending (insert p s.receive.pending) s.receive)
    (with_members
    (change i (on_account (reserve p.content.count)) s.members)
    s)

-- an event that is no data waits to be given; an error or a disconnect breaks its member and, in Backup, promotes another
unfoldable pub report_event : ℕ → Waiting → State → State
report_event i w s =
    let ms = s.members in
    with_waiting (s.waiting ++ (w ∷ []))
    (with_members
    (if_true leb 2 w.kind
    then
    (let broken = change i (turned broken_state) ms in
    if_true is_backup s.making.mode then promote_backup_member broken else broken)
    else ms)
    s)

-- the front event of the member at a place; a packet lowers the budget by one
unfoldable pub collect_member_event : ℕ → ℕ → Event → Run → Run
collect_member_event i id e r =
    if_true eqb e.kind 0
    then
    (let p = packet_from id e in
    record { state = retain_group_packet i p r.state; log = collected p ∷ r.log; budget = r.budget - 1 })
    else on_state (report_event i (waiting_from id e)) r

-- the first member with a queue that is not empty, from the round's place on, and then from the first
unfoldable pub in_turn : ℕ → List Member → Option ℕ
in_turn round ms =
    if_some place_of (λ m. not (is_empty m.queue)) (drop round ms)
    give (λ i. Some (round + i))
    otherwise place_of (λ m. not (is_empty m.queue)) ms

abbrev pub front : List Event → Option Event
front = at_place 0

-- whether an event was taken off a queue, and the call so far
pub record Visited : Type 0 where
  pub took : Bool
  pub run : Run

unfoldable pub take_front : ℕ → Member → Run → Visited
take_front i m r =
    if_some front m.queue
    give
    (λ e.
    let next = with_round (suc i % length r.state.members) r.state in
    if_true eqb r.budget 0
    then record { took = false; run = record { state = with_continuation true next; log = r.log; budget = 0 } }
    else
    record {
      took = true;
      run =
          collect_member_event i (id_of m) e
          record {
            state = with_members (change i (λ m. with_queue (drop 1 m.queue) m) next.members) next;
            log = r.log;
            budget = r.budget;
          };
    })
    otherwise record { took = false; run = r }

-- One event of the legs, in turn. With the budget spent and an event in front: nothing, and the continuation is asked for.
unfoldable pub collect_one_event : Run → Visited
collect_one_event r =
    if_some in_turn r.state.visit.round r.state.members
    give
    (λ i.
    if_some at_place i r.state.members give (λ m. take_front i m r) otherwise record { took = false; run = r })
    otherwise record { took = false; run = r }

-- the continuation is asked for as well
abbrev pub or_continue : Bool → Run → Run
or_continue b = on_state (λ s. with_continuation (is_set s.visit.continuation || b) s)

-- a packet is held, an event waits, or the continuation is asked for
unfoldable pub has_pending_data : State → Bool
has_pending_data s = not (is_empty s.receive.pending) || (not (is_empty s.waiting) || is_set s.visit.continuation)

-- Visits until there is something to give or no event is left, at most so many; none while an event waits. After the last of
-- them with nothing held the continuation is asked for.
unfoldable pub collect_until_held : ℕ → Run → Run
collect_until_held zero r = r
collect_until_held (suc visits) r =
    let c = collect_one_event r in
    let more = or_continue (eqb visits 0 && is_empty c.run.state.receive.pending) c.run in
    let later = collect_until_held visits more in
    if_true not (is_empty r.state.waiting) then r
    else (if_true not c.took then c.run else (if_true has_pending_data more.state then more else later))

-- whether the queues ended empty, and the call so far
pub record Emptied : Type 0 where
  pub emptied : Bool
  pub run : Run

-- Visits until the sequence is held, the continuation is asked for or every queue is empty, at most so many. Only where the
-- queues ended empty is a gap skipped.
unfoldable pub collect_until_empty : ℕ → ℕ → Run → Emptied
collect_until_empty zero sequence r =
    record { emptied = false; run = or_continue (not (is_held sequence r.state.receive.pending)) r }
collect_until_empty (suc visits) sequence r =
    let c = collect_one_event r in
    let later = collect_until_empty visits sequence c.run in
    if_true is_set r.state.visit.continuation || is_held sequence r.state.receive.pending
    then record { emptied = false; run = r }
    else (if_true c.took then later else record { emptied = not (is_set c.run.state.visit.continuation); run = c.run })
