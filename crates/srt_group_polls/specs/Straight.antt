-- A packet that is given straight: it is next in turn, at the base and alone in its run, its sequence is not held, no event waits, and a refresh would change
-- nothing. To hold it and to deliver it at once would leave the same, so it is not held.
use Rattle.srt_group_delivery.specs.declared.delivery.GroupEvent.TheVariants.{Packet as APacket}
use Rattle.std.specs.Prelude.{◌≡◌, true, false, List, ℕ, suc, ◌%◌, ◌<◌, length, drop, Option, None, Some}
use Rattle.srt_protocol.specs.Sequence.{sequence_further}
use Rattle.srt_group_model.specs.declared.Core.{Core}
use Rattle.srt_group_model.specs.declared.Event.{Event}
use Rattle.srt_group_model.specs.declared.Packet.{Packet}
use Rattle.srt_group_model.specs.Tools.{is_empty, at_place, change}
use Rattle.srt_group_model.specs.State.{Member, State, next_receive_sequence, with_receive, with_base, with_members, with_continuation, with_round, on_leg, with_queue}
use Rattle.srt_group_model.specs.Legs.{release_data_reservation}
use Rattle.srt_group_model.specs.Members.{id_of}
use Rattle.srt_group_model.specs.Nearest.{sequence_of, is_held}
use Rattle.srt_group_model.specs.Collecting.{in_turn, front, packet_from}
use Rattle.srt_group_model.specs.Delivery.{advance_legs}
use Rattle.srt_group_members.specs.Quiet.{is_quiet}
use Rattle.srt_group_shown.specs.Shown.{Rest, shown}
use Rattle.srt_group_delivery.specs.declared.delivery.Poll.{Poll}
use Rattle.srt_group_polls.specs.declared.straight.Straight.{Straight as Answer}

-- ---- definitions

-- what is left of a member whose packet of so many was given straight: the packet is off its queue, and off its leg's reservation
abbrev pub given_from : (count : ℕ) → Member → Member
given_from count m = on_leg (release_data_reservation count) (with_queue (drop 1 m.queue) m)

-- the state after the packet of the member at a place was given straight: the round goes on behind that member, and the base passes the run
unfoldable pub given_straight : (place : ℕ) → Packet → State → State
given_straight i p s =
    let next = sequence_further (sequence_of p) p.content.count in
    with_receive (with_base next s.receive)
    (advance_legs next
    (with_members (change i (given_from p.content.count) s.members)
    (with_round (suc i % length s.members) (with_continuation false s))))

-- ---- when a packet is given so

-- the packet of the member at a place
pub record Straight (i : ℕ) (p : Packet) (s : State) : Type 0 where
  pub quiet : is_quiet s.making.mode s.members ≡ true
  pub none_waits : is_empty s.waiting ≡ true
  pub based : next_receive_sequence s.receive ≡ Some (sequence_of p)
  pub turn : in_turn s.visit.round s.members ≡ Some i
  pub member : Member
  pub there : at_place i s.members ≡ Some member
  pub event : Event
  pub first : front member.queue ≡ Some event
  pub is_data : event.kind ≡ 0
  pub packet : p ≡ packet_from (id_of member) event
  pub alone : p.content.count ≡ 1
  pub free : is_held (sequence_of p) s.receive.pending ≡ false

-- over any rest of the state and any waiting events past the count
pub record Goes (i : ℕ) (p : Packet) (core : Core) (ms ps : List ℕ) : Type 0 where
  pub inside : i < core.counts.members
  pub straight : (others : Rest) (ws : List ℕ) → Straight i p (shown core others ms ps ws)

-- what the search for it says
abbrev pub goes : Option Answer → Core → (members pending : List ℕ) → Type 0
goes None core ms ps = Unit {0}
goes (Some a) core ms ps = Goes a.index a.packet core ms ps

-- ---- what it leaves

-- over any held packets and waiting events, which stay
pub record Given (i : ℕ) (p : Packet) (core : Core) (ms : List ℕ) (r : Poll) (ms' : List ℕ) : Type 0 where
  pub gave : r.gave ≡ Some (APacket p)
  pub counts_same : r.core.counts ≡ core.counts
  pub members_long : length ms' ≡ length ms
  pub state : (others : Rest) (ps ws : List ℕ) → given_straight i p (shown core others ms ps ws) ≡ shown r.core others ms' ps ws
