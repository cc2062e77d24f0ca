-- The state of a group, as lists and small records of the types in src/lib.rt, and the functions that change one part of
-- it. Document 01's lent state: the group record, the members with their legs, the held packets, the waiting events.
use Rattle.std.specs.Prelude.{Bool, List, ℕ, Option}
use Rattle.srt_group_model.specs.Tools.{is_set, bit, flagged}
use Rattle.srt_group_model.specs.declared.Event.{Event}
use Rattle.srt_group_model.specs.declared.Packet.{Packet}
use Rattle.srt_group_model.specs.declared.Waiting.{Waiting}
use Rattle.srt_group_model.specs.declared.Leg.{Leg}
use Rattle.srt_group_model.specs.declared.Membership.{Membership}
use Rattle.srt_group_model.specs.declared.Account.{Account}
use Rattle.srt_group_model.specs.declared.Receiving.{Receiving}
use Rattle.srt_group_model.specs.declared.Sending.{Sending}
use Rattle.srt_group_model.specs.declared.Visit.{Visit}
use Rattle.srt_group_model.specs.declared.Entry.{Entry}

-- `SrtGroupMember`: its membership, its leg (document 01's stand-in for `SrtConnection`) and that leg's queue of events
pub record Member : Type 0 where
  pub membership : Membership
  pub leg : Leg
  pub queue : List Event

-- what receiving moves: the base, the skipped total, and the pending packets in ascending order of their sequences
pub record Receive : Type 0 where
  pub numbers : Receiving
  pub pending : List Packet

-- what sending moves: the send number, the carrier, and the Backup history, oldest first
pub record Send : Type 0 where
  pub numbers : Sending
  pub history : List Entry

-- What a group is made of, fixed at creation: its id, its mode, 0 for Broadcast or 1 for Backup, and the store's length, 0 if none is given.
pub record Making : Type 0 where
  pub id : ℕ
  pub mode : ℕ
  pub length : ℕ

-- `SrtGroup`. `peer` is the peer group, 0 while the group is not bound; `own` the account of the packets that the group holds
-- itself; `waiting` the events not yet given
pub record State : Type 0 where
  pub making : Making
  pub peer : ℕ
  pub receive : Receive
  pub send : Send
  pub visit : Visit
  pub own : Account
  pub members : List Member
  pub waiting : List Waiting

-- ---- what is read from it

abbrev pub is_backup : ℕ → Bool
is_backup = is_set

-- document 01's base, if it is set
abbrev pub next_receive_sequence : Receive → Option ℕ
next_receive_sequence x = flagged (is_set x.numbers.based) x.numbers.base

abbrev pub next_send_sequence : Send → Option ℕ
next_send_sequence x = flagged (is_set x.numbers.numbered) x.numbers.next

abbrev pub backup_carrier : Send → Option ℕ
backup_carrier x = flagged (is_set x.numbers.carried) x.numbers.carrier

-- ---- one part is changed

abbrev pub with_receive : Receive → State → State
with_receive x s =
    record {
      making = s.making;
      peer = s.peer;
      receive = x;
      send = s.send;
      visit = s.visit;
      own = s.own;
      members = s.members;
      waiting = s.waiting;
    }

abbrev pub with_send : Send → State → State
with_send x s =
    record {
      making = s.making;
      peer = s.peer;
      receive = s.receive;
      send = x;
      visit = s.visit;
      own = s.own;
      members = s.members;
      waiting = s.waiting;
    }

abbrev pub with_visit : Visit → State → State
with_visit x s =
    record {
      making = s.making;
      peer = s.peer;
      receive = s.receive;
      send = s.send;
      visit = x;
      own = s.own;
      members = s.members;
      waiting = s.waiting;
    }

abbrev pub with_own : Account → State → State
with_own x s =
    record {
      making = s.making;
      peer = s.peer;
      receive = s.receive;
      send = s.send;
      visit = s.visit;
      own = x;
      members = s.members;
      waiting = s.waiting;
    }

abbrev pub with_members : List Member → State → State
with_members ms s =
    record {
      making = s.making;
      peer = s.peer;
      receive = s.receive;
      send = s.send;
      visit = s.visit;
      own = s.own;
      members = ms;
      waiting = s.waiting;
    }

abbrev pub with_waiting : List Waiting → State → State
with_waiting ws s =
    record {
      making = s.making;
      peer = s.peer;
      receive = s.receive;
      send = s.send;
      visit = s.visit;
      own = s.own;
      members = s.members;
      waiting = ws;
    }

abbrev pub with_peer : ℕ → State → State
with_peer n s =
    record {
      making = s.making;
      peer = n;
      receive = s.receive;
      send = s.send;
      visit = s.visit;
      own = s.own;
      members = s.members;
      waiting = s.waiting;
    }

abbrev pub receive_side : Receiving → List Packet → Receive
receive_side x ps = record { numbers = x; pending = ps }

-- the base is set, and so many are skipped
abbrev pub based_at : (base skipped : ℕ) → Receiving
based_at base skipped = record { based = 1; base = base; skipped = skipped }

abbrev pub with_base : ℕ → Receive → Receive
with_base n x = receive_side (based_at n x.numbers.skipped) x.pending

abbrev pub with_pending : List Packet → Receive → Receive
with_pending ps x = receive_side x.numbers ps

abbrev pub send_side : Sending → List Entry → Send
send_side x h = record { numbers = x; history = h }

abbrev pub with_sending : Sending → Send → Send
with_sending x y = send_side x y.history

abbrev pub with_number : ℕ → Sending → Sending
with_number n x = record { numbered = 1; next = n; carried = x.carried; carrier = x.carrier; gap = x.gap }

abbrev pub with_carrier : ℕ → Sending → Sending
with_carrier id x = record { numbered = x.numbered; next = x.next; carried = 1; carrier = id; gap = x.gap }

abbrev pub with_gap : ℕ → Sending → Sending
with_gap n x = record { numbered = x.numbered; next = x.next; carried = x.carried; carrier = x.carrier; gap = n }

abbrev pub entry_of : (sequence cell size time : ℕ) → Entry
entry_of sequence cell size time = record { sequence = sequence; cell = cell; length = size; source = record { 0 = time } }

abbrev pub with_continuation : Bool → State → State
with_continuation b s = with_visit record { continuation = bit b; round = s.visit.round } s

abbrev pub with_round : ℕ → State → State
with_round n s = with_visit record { continuation = s.visit.continuation; round = n } s

-- ---- a member and its parts

abbrev pub with_leg : Leg → Member → Member
with_leg l m = record { membership = m.membership; leg = l; queue = m.queue }

abbrev pub on_leg : (Leg → Leg) → Member → Member
on_leg f m = with_leg (f m.leg) m

abbrev pub with_queue : List Event → Member → Member
with_queue q m = record { membership = m.membership; leg = m.leg; queue = q }

abbrev pub on_membership : (Membership → Membership) → Member → Member
on_membership f m = record { membership = f m.membership; leg = m.leg; queue = m.queue }

-- `GroupMemberState` as the numbers of src/lib.rt
abbrev pub pending_state : ℕ
pending_state = 0

abbrev pub active_state : ℕ
active_state = 1

abbrev pub standby_state : ℕ
standby_state = 2

abbrev pub unstable_state : ℕ
unstable_state = 3

abbrev pub broken_state : ℕ
broken_state = 4

abbrev pub with_state : ℕ → Membership → Membership
with_state n x =
    record { id = x.id; weight = x.weight; state = n; admitted = x.admitted; account = x.account; collision = x.collision }

-- a member turns to a state
abbrev pub turned : ℕ → Member → Member
turned n = on_membership (with_state n)

abbrev pub with_account : Account → Membership → Membership
with_account a x =
    record { id = x.id; weight = x.weight; state = x.state; admitted = x.admitted; account = a; collision = x.collision }

abbrev pub on_account : (Account → Account) → Member → Member
on_account f = on_membership (λ x. with_account (f x.account) x)

abbrev pub with_admitted : Membership → Membership
with_admitted x =
    record { id = x.id; weight = x.weight; state = x.state; admitted = 1; account = x.account; collision = x.collision }

-- a member that answered from another receiving group: Broken, and the collision stays readable until its removal
abbrev pub with_collision : ℕ → ℕ → Membership → Membership
with_collision expected actual x =
    record {
      id = x.id;
      weight = x.weight;
      state = broken_state;
      admitted = x.admitted;
      account = x.account;
      collision = record { expected = expected; actual = actual };
    }
