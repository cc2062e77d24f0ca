-- What holds of a valid state, and of every state between the steps of a poll: the rules of document 01's code 6 that the code
-- rests on while a call is under way, as statements. Contracts of the inner functions cite them; no public call's does.
use Rattle.std.specs.Prelude.{List, [], ◌∷◌, ℕ, ◌+◌, ◌≤◌, ◌-◌, ltb, eqb, ◌≡◌, true, false, not, ◌&&◌, ◌||◌, length}
use Rattle.srt_protocol.specs.Cells.{cell_size, max_cells}
use Rattle.srt_group_model.specs.Tools.{each, if_true◌then◌else◌, All}
use Rattle.srt_group_model.specs.State.{Member, State}
use Rattle.srt_group_model.specs.Accounts.{account_of}
use Rattle.srt_group_model.specs.Members.{id_of}
use Rattle.srt_group_model.specs.Cells.{queued_cells, is_among, is_data}
use Rattle.srt_group_model.specs.declared.Account.{Account}
use Rattle.srt_group_model.specs.declared.Packet.{Packet}
use Rattle.srt_group_model.specs.declared.Entry.{Entry}
use Rattle.srt_group_model.specs.Removal.{is_owned}
use Rattle.srt_group_model.specs.Validity.{one_twice, is_held_for, held_count, queued_count, max_queued, is_too_large, event_out_of_range, data_out_of_range, ascends}
use Rattle.srt_group_model.specs.Legs.{is_connected, has_sender, no_sequence, largest_sequence, largest_16, largest_32, largest_64}
use Rattle.srt_group_model.specs.declared.Leg.{Leg}
use Rattle.srt_group_model.specs.declared.Event.{Event}
use Rattle.srt_group_model.specs.Nearest.{sequence_of}
use Rattle.srt_group_model.specs.Backup.{max_history}
use Rattle.srt_group_model.specs.declared.Waiting.{Waiting}
use Rattle.srt_group_model.specs.declared.Receiving.{Receiving}
use Rattle.srt_group_model.specs.declared.Sending.{Sending}

-- ---- ids

abbrev pub ids : List Member → List ℕ
ids = each id_of

-- ---- cells: how often one is named, and the room of a state

abbrev pub one : ℕ → ℕ → ℕ
one m n = if_true eqb m n then 1 else 0

unfoldable pub occurs : ℕ → List ℕ → ℕ
occurs n [] = 0
occurs n (m ∷ ms) = one m n + occurs n ms

abbrev pub room : ℕ → ℕ → ℕ
room cells n = if_true ltb n cells then 1 else 0

abbrev pub pending_cells : List Packet → List ℕ
pending_cells = each (λ (p : Packet). p.content.cell)

abbrev pub history_cells : List Entry → List ℕ
history_cells = each (λ (e : Entry). e.cell)

abbrev pub uses : ℕ → List Member → List Packet → List Entry → ℕ
uses n ms ps hs = occurs n (queued_cells ms) + (occurs n (pending_cells ps) + occurs n (history_cells hs))

-- each is used at most so often
abbrev pub Within : (ℕ → ℕ) → State → Type 0
Within bound s = (n : ℕ) → uses n s.members s.receive.pending s.send.history ≤ bound n

-- ---- accounts of packets

-- a packet is the group's own, or its member is there
abbrev pub Placed : List ℕ → Packet → Type 0
Placed l p = (is_owned p || is_among p.member l) ≡ true

-- the member's account is that of the packets held for it, its leg's reservation their counts and those of its queue
pub record Summed (ps : List Packet) (m : Member) : Type 0 where
  pub account : m.membership.account ≡ account_of (is_held_for (id_of m)) ps
  pub reservation : m.leg.receiver.reserved ≡ held_count (id_of m) ps + queued_count m.queue

-- every account is that of the packets it is of, and every held packet is in one
pub record Sums (ps : List Packet) (ms : List Member) (own_account : Account) : Type 0 where
  pub unique : one_twice (ids ms) ≡ false
  pub members : All (Summed ps) ms
  pub placed : All (Placed (ids ms)) ps
  pub own : own_account ≡ account_of is_owned ps

abbrev pub SumsRight : State → Type 0
SumsRight s = Sums s.receive.pending s.members s.own

-- ---- the range of each number of a member

pub record LegFit (l : Leg) : Type 0 where
  pub state : l.link.state ≤ 2
  pub peer : l.link.peer ≤ largest_32
  pub limit : l.link.limit ≤ largest_16
  pub started : l.sender.started ≤ 1
  pub flight : l.sender.flight ≤ largest_16
  pub no_flight : has_sender l ≡ false → l.sender.flight ≡ 0
  pub window : l.sender.window ≤ largest_16
  pub oldest : l.sender.oldest.0 ≤ largest_64
  pub pace : l.sender.pace.0 ≤ largest_64
  pub receive_window : l.receiver.window ≤ largest_16
  pub latency : l.receiver.latency ≤ largest_64
  pub srtt : l.trip.srtt ≤ largest_32
  pub rttvar : l.trip.rttvar ≤ largest_32
  pub heard : l.trip.heard.0 ≤ largest_64
  pub connects : is_connected l ≡ true → has_sender l ≡ true
  pub next : l.sender.next ≤ largest_sequence
  pub advanced : l.receiver.advanced ≤ largest_sequence
  pub first : (is_too_large l.receiver.first && not (eqb l.receiver.first no_sequence)) ≡ false

pub record EventFit (e : Event) : Type 0 where
  pub fields : event_out_of_range e ≡ false
  pub sequence : (is_data e && is_too_large e.content.sequence) ≡ false

pub record MemberFit (m : Member) : Type 0 where
  pub leg : LegFit m.leg
  pub id : id_of m ≤ largest_32
  pub weight : m.membership.weight ≤ largest_16
  pub state : m.membership.state ≤ 4
  pub admitted : m.membership.admitted ≤ 1
  pub expected : m.membership.collision.expected ≤ largest_32
  pub actual : m.membership.collision.actual ≤ largest_32
  pub queue : All EventFit m.queue
  pub short : length m.queue ≤ max_queued

abbrev pub AllFit : List Member → Type 0
AllFit = All MemberFit

-- ---- the range of each number of a state

pub record PacketFit (p : Packet) : Type 0 where
  pub member : p.member ≤ largest_32
  pub owned : p.owned ≤ 1
  pub fields : data_out_of_range p.content ≡ false
  pub sequence : sequence_of p ≤ largest_sequence

pub record EntryFit (e : Entry) : Type 0 where
  pub sequence : e.sequence ≤ largest_sequence
  pub size : e.length ≤ cell_size
  pub source : e.source.0 ≤ largest_64

pub record WaitingFit (w : Waiting) : Type 0 where
  pub member : w.member ≤ largest_32
  pub kind : w.kind ≤ 3
  pub some_kind : eqb w.kind 0 ≡ false
  pub reason : w.reason ≤ largest_32

pub record ReceivingFit (x : Receiving) : Type 0 where
  pub based : x.based ≤ 1
  pub base : x.base ≤ largest_sequence

pub record SendingFit (x : Sending) : Type 0 where
  pub numbered : x.numbered ≤ 1
  pub next : x.next ≤ largest_sequence
  pub carried : x.carried ≤ 1
  pub carrier : x.carrier ≤ largest_32
  pub gap : x.gap ≤ 1

-- the id and the mode are not here: no call moves them
pub record Fit (s : State) : Type 0 where
  pub members : AllFit s.members
  pub pending : All PacketFit s.receive.pending
  pub history : All EntryFit s.send.history
  pub remembered : length s.send.history ≤ max_history
  pub waiting : All WaitingFit s.waiting
  pub receiving : ReceivingFit s.receive.numbers
  pub sending : SendingFit s.send.numbers
  pub continuation : s.visit.continuation ≤ 1
  pub peer : s.peer ≤ largest_32

-- ---- the round's place

abbrev pub InRound : State → Type 0
InRound s = s.visit.round ≤ length s.members - 1

-- ---- the statement

pub record Sound (s : State) : Type 0 where
  pub ascending : ascends s.receive.pending ≡ true
  pub cells : Within (room max_cells) s
  pub fit : Fit s
  pub sums : SumsRight s
  pub round : InRound s
