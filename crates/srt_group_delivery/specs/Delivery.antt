-- The give-up test, the release of what a run covers, and delivery, over the record's numbers and the lent tables.
use Rattle.std.specs.Prelude.{◌≡◌, Bool, true, false, List, ℕ, ◌≤◌, leb, length}
use Rattle.srt_group_model.specs.declared.Core.{Core}
use Rattle.srt_group_model.specs.declared.Leg.{Leg}
use Rattle.srt_group_model.specs.declared.Packet.{Packet}
use Rattle.srt_group_model.specs.Tools.{if_some◌give◌otherwise◌, All}
use Rattle.srt_group_model.specs.Sound.{PacketFit}
use Rattle.srt_group_model.specs.State.{Member, on_leg, on_account}
use Rattle.srt_group_model.specs.Accounts.{release}
use Rattle.srt_group_model.specs.Core.{with_own_account}
use Rattle.srt_group_model.specs.Legs.{gives_up_at, release_data_reservation}
use Rattle.srt_group_model.specs.Validity.{max_pending, max_members, ascends}
use Rattle.srt_group_model.specs.Delivery.{release_all, deliver_packet}
use Rattle.srt_connection_members.specs.Members.{members_size}
use Rattle.srt_group_tables.specs.Packets.{pending_size, packets, Placed}
use Rattle.srt_group_tables.specs.Covered.{Small}
use Rattle.srt_group_shown.specs.Shown.{Rest, shown}
use Rattle.srt_group_shown.specs.Tables.{receive_tables}
use Rattle.srt_group_collecting.specs.Leaves.{Leaves}

-- ---- what delivery may rely on

-- `Usable` without the waiting events, and what follows of the held packets: they are few
pub record Deliverable (core : Core) (members pending : List ℕ) : Type 0 where
  pub members_long : members_size ≤ length members
  pub pending_long : pending_size ≤ length pending
  pub members_few : core.counts.members ≤ max_members
  pub held_few : core.counts.pending ≤ max_pending
  pub ascending : ascends (packets core.counts.pending pending) ≡ true
  pub fitting : All PacketFit (packets core.counts.pending pending)

-- the packet at a place has the sequence: it is one of the circle, and no other place has it
pub record HeldAt (pending : List ℕ) (held sequence at : ℕ) : Type 0 where
  pub placed : Placed pending held sequence at
  pub small : Small pending held sequence

-- ---- the give-up test

-- a leg has given up by a time on a packet of that source time
abbrev pub leg_given_up : (time source : ℕ) → Leg → Bool
leg_given_up time source l = if_some gives_up_at source l give (λ moment. leb moment time) otherwise false

-- ---- a reservation is released

-- a member's sum and its leg's reservation, less a count
abbrev pub release_member : ℕ → Member → Member
release_member count m =
    on_leg (release_data_reservation count) (on_account (release count) m)

-- these packets' reservations are released, over any held packets and waiting events: only the group's own sum and the members'
-- sums change
pub record Released (l : List Packet) (core : Core) (ms : List ℕ) (after : Core) (ms' : List ℕ) : Type 0 where
  pub rest : after ≡ with_own_account after.own core
  pub long : length ms' ≡ length ms
  pub state : (others : Rest) (ps ws : List ℕ) → release_all l (shown core others ms ps ws) ≡ shown after others ms' ps ws

-- ---- a packet is delivered

-- over any waiting events, which stay
pub record Delivered (base : ℕ) (p : Packet) (core : Core) (ms ps : List ℕ) (after : Core) (ms' ps' : List ℕ) : Type 0 where
  pub waiting_same : after.counts.waiting ≡ core.counts.waiting
  pub leaves : (ws : List ℕ) → Leaves (deliver_packet base p) core (receive_tables ms ps ws) after (receive_tables ms' ps' ws)
