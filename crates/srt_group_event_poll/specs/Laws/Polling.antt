-- What is proved of the definitions in specs/Polling.antt, with what the proofs need.
use Rattle.srt_group_delivery.specs.declared.delivery.GroupEvent.TheVariants.{Event, Packet as GivenPacket}
use Rattle.srt_group_delivery.specs.declared.delivery.GroupEvent.{GroupEvent}
use Rattle.std.specs.Prelude.{◌≡◌, List, [], ℕ, ◌≤◌, length, None, Option, Some}
use Rattle.std.proofs.Math.Path.{refl, ap}
use Rattle.std.proofs.Common.{sym, ◌∙◌}
use Rattle.srt_protocol.specs.Cells.{output_size}
use Rattle.srt_group_model.specs.Tools.{if_true◌then◌else◌}
use Rattle.srt_group_model.specs.Legs.{largest_64}
use Rattle.srt_group_model.specs.Run.{Run, start}
use Rattle.srt_group_model.specs.Guards.{polled}
use Rattle.srt_group_model.specs.Delivery as model
use Rattle.srt_group_model.specs.Delivery.{nothing, event, packet}
use Rattle.srt_group_model.specs.Polls.{poll_event, pass_events, poll_until_data, poll_data_bounded}
use Rattle.srt_group_model.specs.Calls.{event_poll_body, poll_event_call}
use Rattle.srt_group_model.specs.Lent.{call_poll_event, delivered_by, written_out, step_of}
use Rattle.srt_group_model.specs.declared.Packet.{Packet}
use Rattle.srt_group_model.specs.declared.Waiting.{Waiting}
use Rattle.srt_group_shown.specs.Tables.{Parts, parts, Tables, ReceiveTables, rest_of, state_of}
use Rattle.srt_group_shown.specs.Ready.{Ready, lending, Performs}
use Rattle.srt_group_collecting.specs.Leaves.{sends}
use Rattle.srt_group_collecting.specs.Follows.{Follows}
use Rattle.srt_group_delivery.specs.declared.delivery.Poll.{Poll}
use Rattle.srt_group_skip.specs.Skip.{GivesState, PollsFrom}
use Rattle.srt_group_data_poll.specs.Polling.{Writable}
use Rattle.srt_group_data_poll.specs.Laws.Polling.{moved_of, with_moved, writable_given, poll_performed}
use Rattle.srt_group_event_poll.specs.Polling.{answer_of, packet_in}

-- ---- the packet in an answer

pub none_in_nothing : (gave : Option GroupEvent) → gave ≡ None → None ≡ packet_in gave
unfolding delivered_by
none_in_nothing gave is = ap packet_in (sym is)

pub none_in_event : (gave : Option GroupEvent) (w : Waiting) → gave ≡ Some (Event w) → None ≡ packet_in gave
unfolding delivered_by
none_in_event gave w is = ap packet_in (sym is)

pub one_in_packet : (gave : Option GroupEvent) (p : Packet) → gave ≡ Some (GivenPacket p) → Some p ≡ packet_in gave
unfolding delivered_by
one_in_packet gave p is = ap packet_in (sym is)

passed_once : (time : ℕ) (gave : model.Polled) (r : Run) → (pass_events gave r (poll_until_data time 0 r)).gave ≡ delivered_by (polled gave)
unfolding pass_events poll_until_data delivered_by
passed_once time nothing r = refl
passed_once time (event w) r = refl
passed_once time (packet p) r = refl

-- a data poll of at most one event poll gives the packet of that event poll
data_poll_of_one : (time : ℕ) (r : Run) → (poll_data_bounded time 1 r).gave ≡ delivered_by (polled (poll_event time r).gave)
unfolding poll_data_bounded poll_until_data if_true◌then◌else◌
data_poll_of_one time r = passed_once time (poll_event time r).gave (poll_event time r).run

-- ---- the poll

module _ (time : ℕ) (p : Parts) (t : Tables) (r : Poll) (u : ReceiveTables)
    (polls : (budget : ℕ) → PollsFrom (sends p.sending) (poll_event time) p.core budget (moved_of t) r u) where
  gives : GivesState (poll_event time (start (state_of p t))) r (rest_of p t) u
  gives = (polls 0).run (rest_of p t) refl []

  pub writable : {store output : ℕ} {used : List ℕ} (gave : Option Packet) → gave ≡ packet_in r.gave → Ready p t store used
      → output_size ≤ output → Writable gave store output
  writable gave is ready room_there =
      writable_given ready time 1 gave
      (data_poll_of_one time (start (state_of p t)) ∙ ap (λ (x : model.Polled). delivered_by (polled x)) gives.gave ∙ sym is) room_there

  pub performed : (store output used : List ℕ) → Ready p t (length store) used → output_size ≤ length output → (used' output' : List ℕ)
      → time ≤ largest_64 → Follows p.core t.members t.pending used r.core u.members u.pending used'
      → {given : Option Packet} → given ≡ packet_in r.gave → output' ≡ written_out given store output
      → Performs (call_poll_event time) p t (lending store output) 0 (answer_of r)
      (parts p.identity r.core p.sending p.ring) (with_moved u t) (lending store output') used'
  unfolding step_of poll_event_call event_poll_body
  performed store output used ready room_there used' output' small follows is wrote_out =
      poll_performed time p t store output used ready room_there small r.core u used' output' (polls 0).members_long
      (polls 0).pending_long (polls 0).waiting_long follows (call_poll_event time) (poll_event time (start (state_of p t))).run _ (answer_of r)
      refl (ap (λ (x : model.Polled). polled x) (sym gives.gave)) gives.state
      (wrote_out ∙ ap (λ (o : Option Packet). written_out o store output) is)
