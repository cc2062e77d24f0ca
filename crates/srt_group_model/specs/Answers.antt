-- Document 01's numbers for what a call answers: a refusal's number is its code, with no values; the values of an accepted call are
-- those of its answer's case. The promises of the public calls use them.
use Rattle.std.specs.Prelude.{◌≡◌, Bool, List, [], ◌∷◌, ◌++◌, ℕ, None, Option, Some}
use Rattle.srt_group_model.specs.Tools.{bit}
use Rattle.srt_group_model.specs.State.{State}
use Rattle.srt_group_model.specs.Delivery.{Polled, nothing, event, packet}
use Rattle.srt_group_model.specs.Guards.{Shown, truth, number, optional, one_member, all_members, Answer, no_answer, shown, polled, data_polled, leg_back}
use Rattle.srt_group_model.specs.Lent.{looking, Call, call_add_member, call_mark_member_broken, call_remove_member_connection, call_refresh_member_states, call_disconnect, call_poll_event, call_poll_data_bounded, call_send, call_can_send, call_can_send_with_pacing, call_look, call_read_leg, call_queue_data, call_queue_event}
use Rattle.srt_group_model.specs.declared.Packet.{Packet}
use Rattle.srt_group_model.specs.declared.Leg.{Leg}
use Rattle.srt_group_model.specs.declared.MemberShown.{MemberShown}

-- leg, sequence, count (0: no packet), message number, timestamp, source time, length of the payload, which is in the output
abbrev pub packet_values : Option Packet → List ℕ
packet_values None = 0 ∷ 0 ∷ 0 ∷ 0 ∷ 0 ∷ 0 ∷ 0 ∷ []
packet_values (Some p) =
    p.member ∷ p.content.sequence ∷ p.content.count ∷ p.content.message ∷ p.content.timestamp ∷ p.content.source.0
    ∷ p.content.length
    ∷ []

-- state (0 handshaking, 1 connected, 2 disconnected), peer group (0 none), payload limit; sender, next, flight, window, oldest send
-- time, pace time; the peer's first sequence (4294967295 none), receive window, latency, reserved, advanced; srtt, rttvar,
-- last heard
abbrev pub leg_values : Leg → List ℕ
leg_values l =
    l.link.state ∷ l.link.peer ∷ l.link.limit ∷ l.sender.started ∷ l.sender.next ∷ l.sender.flight ∷ l.sender.window
    ∷ l.sender.oldest.0 ∷ l.sender.pace.0 ∷ l.receiver.first ∷ l.receiver.window ∷ l.receiver.latency
    ∷ l.receiver.reserved ∷ l.receiver.advanced ∷ l.trip.srtt ∷ l.trip.rttvar ∷ l.trip.heard.0
    ∷ []

-- id, weight, state (0 pending, 1 active, 2 standby, 3 unstable, 4 broken), the leg's state (0 handshaking, 1 connected,
-- 2 disconnected), admitted, reserved, collision: expected, actual
abbrev pub member_values : MemberShown → List ℕ
member_values x =
    let m = x.membership in
    m.id ∷ m.weight ∷ m.state ∷ x.connection ∷ m.admitted ∷ m.account.reserved ∷ m.collision.expected ∷ m.collision.actual
    ∷ []

unfoldable pub all_values : List MemberShown → List ℕ
all_values [] = []
all_values (m ∷ ms) = member_values m ++ all_values ms

-- What is shown: of a readiness test or flag 0 or 1; of a number itself; of what may be missing none or one; of members their words.
unfoldable pub shown_values : Shown → List ℕ
shown_values (truth b) = bit b ∷ []
shown_values (number n) = n ∷ []
shown_values (optional None) = []
shown_values (optional (Some n)) = n ∷ []
shown_values (one_member None) = []
shown_values (one_member (Some m)) = member_values m
shown_values (all_members ms) = all_values ms

-- The values of each case: of an event poll the event (1 connected, 2 error, 3 disconnected), its leg and reason, or 0 and the packet;
-- of a data poll the continuation and the packet; of a removal the leg.
unfoldable pub values_of : Answer → List ℕ
values_of no_answer = []
values_of (shown x) = shown_values x
values_of (polled nothing) = 0 ∷ packet_values None
values_of (polled (event w)) = w.kind ∷ w.member ∷ w.reason ∷ 0 ∷ 0 ∷ 0 ∷ 0 ∷ 0 ∷ []
values_of (polled (packet p)) = 0 ∷ packet_values (Some p)
values_of (data_polled gave more) = bit more ∷ packet_values gave
values_of (leg_back l) = leg_values l

-- ---- the case that each accepted call answers with, from the state that it begins with; a refused one has no answer

abbrev pub CallAnswers : Call → State → Answer → Type 0
CallAnswers (call_add_member id weight l queue) s a = a ≡ no_answer
CallAnswers (call_mark_member_broken id) s a = a ≡ no_answer
CallAnswers (call_remove_member_connection id) s a = (l : Leg) × (a ≡ leg_back l)
CallAnswers call_refresh_member_states s a = a ≡ no_answer
CallAnswers (call_disconnect time) s a = a ≡ no_answer
CallAnswers (call_poll_event time) s a = (p : Polled) × (a ≡ polled p)
CallAnswers (call_poll_data_bounded time max_events) s a = (o : Option Packet) × (more : Bool) × (a ≡ data_polled o more)
CallAnswers (call_send time payload) s a = (n : ℕ) × (a ≡ shown (number n))
CallAnswers call_can_send s a = (b : Bool) × (a ≡ shown (truth b))
CallAnswers (call_can_send_with_pacing time) s a = (b : Bool) × (a ≡ shown (truth b))
CallAnswers (call_look look) s a = a ≡ shown ((looking look).shows s)
CallAnswers (call_read_leg id field n) s a = a ≡ no_answer
CallAnswers (call_queue_data id d payload) s a = a ≡ no_answer
CallAnswers (call_queue_event id kind reason) s a = a ≡ no_answer
