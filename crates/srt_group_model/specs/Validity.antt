-- When a lent state is refused with 6, rule by rule: document 01, "the lent state breaks a rule". Each test is true of a state
-- that breaks its rule; the last two are "a field above its range", in the record and in a row of a lent table.
use Rattle.std.specs.Prelude.{Bool, true, false, not, ◌&&◌, ◌||◌, List, [], ◌∷◌, ◌++◌, ℕ, ◌+◌, ◌-◌, leb, ltb, eqb, length}
use Rattle.srt_protocol.specs.Handshake.{has_group_mask}
use Rattle.srt_protocol.specs.Cells.{cell_size}
use Rattle.srt_group_model.specs.Tools.{if_true◌then◌else◌, any, each, total, counted}
use Rattle.srt_group_model.specs.Accounts.{account_of, unlike}
use Rattle.srt_group_model.specs.State.{Member, State, Making}
use Rattle.srt_group_model.specs.Legs.{is_connected, has_sender, no_sequence, largest_sequence, largest_16, largest_32, largest_64}
use Rattle.srt_group_model.specs.Members.{id_of, has_id}
use Rattle.srt_group_model.specs.Removal.{is_owned}
use Rattle.srt_group_model.specs.Backup.{max_history}
use Rattle.srt_group_model.specs.Cells.{is_data, used_cells, is_among}
use Rattle.srt_group_model.specs.declared.Data.{Data}
use Rattle.srt_group_model.specs.declared.Event.{Event}
use Rattle.srt_group_model.specs.declared.Packet.{Packet}
use Rattle.srt_group_model.specs.declared.Leg.{Leg}
use Rattle.srt_group_model.specs.declared.Membership.{Membership}
use Rattle.srt_group_model.specs.declared.Entry.{Entry}
use Rattle.srt_group_model.specs.declared.Waiting.{Waiting}

-- ---- a word above its range

abbrev pub above : ℕ → ℕ → Bool
above limit n = ltb limit n

-- a word, and the largest that it may be
pub record Ranged : Type 0 where
  pub value : ℕ
  pub largest : ℕ

infix 20 ◌at_most◌
abbrev pub ◌at_most◌ : ℕ → ℕ → Ranged
value at_most largest = record { value = value; largest = largest }

unfoldable pub any_above : List Ranged → Bool
any_above words = any (λ word. above word.largest word.value) words

-- ---- blank: not made by `new`, so without the mark of a group id

unfoldable pub is_blank : State → Bool
is_blank s = not (has_group_mask s.making.id)

-- ---- a count above its limit

abbrev pub max_members : ℕ
max_members = 64

abbrev pub max_queued : ℕ
max_queued = 16

abbrev pub max_pending : ℕ
max_pending = 2048

abbrev pub max_waiting : ℕ
max_waiting = 64

-- the round's place is that of a member; with no member it is 0
unfoldable pub counts : State → List Ranged
counts s =
    (length s.members at_most max_members) ∷ (length s.receive.pending at_most max_pending)
    ∷ (length s.waiting at_most max_waiting) ∷ (length s.send.history at_most max_history)
    ∷ (s.visit.round at_most (length s.members - 1)) ∷ []

abbrev pub long_queue : Member → Bool
long_queue m = above max_queued (length m.queue)

unfoldable pub count_above_limit : State → Bool
count_above_limit s = any_above (counts s) || any long_queue s.members

-- ---- a sequence of 2^31 or more

abbrev pub is_too_large : ℕ → Bool
is_too_large = above largest_sequence

unfoldable pub leg_sequence_too_large : Leg → Bool
leg_sequence_too_large l =
    is_too_large l.sender.next
    || (is_too_large l.receiver.advanced || (is_too_large l.receiver.first && not (eqb l.receiver.first no_sequence)))

-- only data has a sequence
unfoldable pub event_sequence_too_large : Event → Bool
event_sequence_too_large e = is_data e && is_too_large e.content.sequence

unfoldable pub member_sequence_too_large : Member → Bool
member_sequence_too_large m = leg_sequence_too_large m.leg || any event_sequence_too_large m.queue

unfoldable pub sequence_too_large : State → Bool
sequence_too_large s =
    any is_too_large (s.receive.numbers.base ∷ s.send.numbers.next ∷ [])
    || (any (λ p. is_too_large p.content.sequence) s.receive.pending
    || (any (λ e. is_too_large e.sequence) s.send.history || any member_sequence_too_large s.members))

-- ---- one id twice; one held sequence twice, or held packets that do not ascend; a cell named twice

unfoldable pub one_twice : List ℕ → Bool
one_twice [] = false
one_twice (n ∷ ns) = is_among n ns || one_twice ns

unfoldable pub id_twice : State → Bool
id_twice s = one_twice (each id_of s.members)

unfoldable pub ascends : List Packet → Bool
ascends [] = true
ascends (p ∷ []) = true
ascends (p ∷ q ∷ qs) = ltb p.content.sequence q.content.sequence && ascends (q ∷ qs)

unfoldable pub held_sequence_twice : State → Bool
held_sequence_twice s = not (ascends s.receive.pending)

unfoldable pub cell_twice : State → Bool
cell_twice s = one_twice (used_cells s)

-- ---- a cell beyond the store, of so many cells

unfoldable pub cell_beyond_store : ℕ → State → Bool
cell_beyond_store cells s = any (leb cells) (used_cells s)

-- ---- a reserved sum unequal to its packets' counts

-- held for a member, and not by the group itself
abbrev pub is_held_for : ℕ → Packet → Bool
is_held_for id p = eqb p.member id && not (is_owned p)

-- what packets weigh together: those held for a member, the group's own, those in a queue
abbrev pub held_weight : (Data → ℕ) → ℕ → List Packet → ℕ
held_weight weight id = total (counted (is_held_for id) (λ p. weight p.content))

abbrev pub own_weight : (Data → ℕ) → List Packet → ℕ
own_weight weight = total (counted is_owned (λ p. weight p.content))

abbrev pub queued_weight : (Data → ℕ) → List Event → ℕ
queued_weight weight = total (counted is_data (λ e. weight e.content))

-- in the reserved sums a packet weighs its count
abbrev pub held_count : ℕ → List Packet → ℕ
held_count = held_weight (λ d. d.count)

abbrev pub queued_count : List Event → ℕ
queued_count = queued_weight (λ d. d.count)

-- the member's account is that of its held packets, its leg's reservation the counts of the held and the queued ones
unfoldable pub member_sum_wrong : List Packet → Member → Bool
member_sum_wrong ps m =
    unlike m.membership.account (account_of (is_held_for (id_of m)) ps)
    || not (eqb m.leg.receiver.reserved (held_count (id_of m) ps + queued_count m.queue))

-- a held packet is counted nowhere: not the group's own, and of no member
unfoldable pub is_unreserved : List Member → Packet → Bool
is_unreserved ms p = not (is_owned p) && not (any (has_id p.member) ms)

unfoldable pub reserved_sum_wrong : State → Bool
reserved_sum_wrong s =
    any (member_sum_wrong s.receive.pending) s.members
    || (any (is_unreserved s.members) s.receive.pending
    || unlike s.own (account_of is_owned s.receive.pending))

-- ---- a word of the record above its range

-- What is fixed at creation: an id is 32 bits, the mode 0 or 1; any word is a length of the store.
unfoldable pub making_words : Making → List Ranged
making_words making = (making.id at_most largest_32) ∷ (making.mode at_most 1) ∷ []

-- What calls move: a flag is 0 or 1. The base and the next send number are among the sequences; what counts rows is among the
-- counts or the sums; any word is a skipped total.
unfoldable pub group_words : State → List Ranged
group_words s =
    (s.peer at_most largest_32) ∷ (s.receive.numbers.based at_most 1) ∷ (s.send.numbers.numbered at_most 1)
    ∷ (s.send.numbers.carried at_most 1) ∷ (s.send.numbers.carrier at_most largest_32)
    ∷ (s.send.numbers.gap at_most 1) ∷ (s.visit.continuation at_most 1) ∷ []

unfoldable pub record_out_of_range : State → Bool
record_out_of_range s = any_above (making_words s.making) || any_above (group_words s)

-- ---- a field of a row above its range

-- what a packet is handed over with, but its sequence, which is among the sequences; its cell and its length come with the payload
unfoldable pub data_words : Data → List Ranged
data_words d =
    (d.count at_most largest_16) ∷ (d.message at_most largest_32) ∷ (d.timestamp at_most largest_32)
    ∷ (d.source.0 at_most largest_64) ∷ []

-- a packet counts for one or more
unfoldable pub data_out_of_range : Data → Bool
data_out_of_range d = eqb d.count 0 || any_above ((d.length at_most cell_size) ∷ data_words d)

unfoldable pub event_words : Event → List Ranged
event_words e = (e.kind at_most 3) ∷ (e.reason at_most largest_32) ∷ []

unfoldable pub event_out_of_range : Event → Bool
event_out_of_range e = any_above (event_words e) || (is_data e && data_out_of_range e.content)

-- a flight is 0 without a sender
unfoldable pub leg_words : Leg → List Ranged
leg_words l =
    (l.link.state at_most 2) ∷ (l.link.peer at_most largest_32) ∷ (l.link.limit at_most largest_16)
    ∷ (l.sender.started at_most 1) ∷ (l.sender.flight at_most (if_true has_sender l then largest_16 else 0))
    ∷ (l.sender.window at_most largest_16) ∷ (l.sender.oldest.0 at_most largest_64)
    ∷ (l.sender.pace.0 at_most largest_64) ∷ (l.receiver.window at_most largest_16)
    ∷ (l.receiver.latency at_most largest_64) ∷ (l.trip.srtt at_most largest_32) ∷ (l.trip.rttvar at_most largest_32)
    ∷ (l.trip.heard.0 at_most largest_64) ∷ []

-- a connected leg has a sender
unfoldable pub leg_out_of_range : Leg → Bool
leg_out_of_range l = any_above (leg_words l) || (is_connected l && not (has_sender l))

-- a member without its leg and its queue; its reserved sum is among the sums
unfoldable pub membership_words : Membership → List Ranged
membership_words x =
    (x.id at_most largest_32) ∷ (x.weight at_most largest_16) ∷ (x.state at_most 4) ∷ (x.admitted at_most 1)
    ∷ (x.collision.expected at_most largest_32) ∷ (x.collision.actual at_most largest_32) ∷ []

unfoldable pub membership_out_of_range : Membership → Bool
membership_out_of_range x = any_above (membership_words x)

unfoldable pub member_out_of_range : Member → Bool
member_out_of_range m =
    membership_out_of_range m.membership || (leg_out_of_range m.leg || any event_out_of_range m.queue)

unfoldable pub packet_words : Packet → List Ranged
packet_words p = (p.member at_most largest_32) ∷ (p.owned at_most 1) ∷ []

unfoldable pub packet_out_of_range : Packet → Bool
packet_out_of_range p = any_above (packet_words p) || data_out_of_range p.content

-- its sequence is among the sequences, its cell among the cells
unfoldable pub entry_words : Entry → List Ranged
entry_words e = (e.length at_most cell_size) ∷ (e.source.0 at_most largest_64) ∷ []

unfoldable pub entry_out_of_range : Entry → Bool
entry_out_of_range e = any_above (entry_words e)

unfoldable pub waiting_words : Waiting → List Ranged
waiting_words w = (w.member at_most largest_32) ∷ (w.kind at_most 3) ∷ (w.reason at_most largest_32) ∷ []

-- data does not wait
unfoldable pub waiting_out_of_range : Waiting → Bool
waiting_out_of_range w = eqb w.kind 0 || any_above (waiting_words w)

unfoldable pub field_out_of_range : State → Bool
field_out_of_range s =
    any member_out_of_range s.members
    || (any packet_out_of_range s.receive.pending
    || (any entry_out_of_range s.send.history || any waiting_out_of_range s.waiting))

-- ---- all of them, over a store of so many cells

unfoldable pub rules_outside_cells : State → List Bool
rules_outside_cells s =
    is_blank s ∷ count_above_limit s ∷ sequence_too_large s ∷ id_twice s ∷ held_sequence_twice s ∷ reserved_sum_wrong s
    ∷ record_out_of_range s ∷ field_out_of_range s ∷ []

unfoldable pub rules_of_cells : ℕ → State → List Bool
rules_of_cells cells s = cell_twice s ∷ cell_beyond_store cells s ∷ []

unfoldable pub broken_rules : ℕ → State → List Bool
broken_rules cells s = rules_outside_cells s ++ rules_of_cells cells s

unfoldable pub is_invalid : ℕ → State → Bool
is_invalid cells s = any (λ rule. rule) (broken_rules cells s)
