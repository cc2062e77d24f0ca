-- A call keeps validity: from a valid state only valid states come, so 6 never follows from our own calls. Document 01's rules of
-- 6 one by one, with the laws that keep each.
use Rattle.std.specs.Prelude.{◌≡◌, refl, Bool, true, false, not, ◌||◌, ℕ, ◌≤◌, leb, eqb, length}
use Rattle.std.proofs.Common.{ap, ◌∙◌, arith, ltb-false, le-ltb, leb-false}
use Rattle.std.proofs.lemmas.Bool.{lt-leb, not-false}
use Rattle.srt_protocol.specs.Handshake.{has_group_mask}
use Rattle.srt_protocol.specs.Cells.{cells_of, max_cells}
use Rattle.srt_group_model.specs.Tools.{if_true◌then◌else◌, any, such_that, each, total}
use Rattle.srt_group_model.specs.Laws.Reason.{or_left, neither, no_either, all_map, all_two, none_of, of_none}
use Rattle.srt_group_model.specs.State.{Member, State, Making}
use Rattle.srt_group_model.specs.Legs.{largest_sequence}
use Rattle.srt_group_model.specs.Cells.{queued_cells, used_cells}
use Rattle.srt_group_model.specs.Validity.{is_too_large, any_above, is_blank, max_members, max_queued, max_pending, max_waiting, counts, long_queue, count_above_limit, event_sequence_too_large, member_sequence_too_large, sequence_too_large, one_twice, id_twice, ascends, held_sequence_twice, cell_twice, cell_beyond_store, reserved_sum_wrong, making_words, group_words, record_out_of_range, data_out_of_range, event_out_of_range, membership_words, membership_out_of_range, member_out_of_range, packet_words, packet_out_of_range, entry_words, entry_out_of_range, waiting_words, waiting_out_of_range, field_out_of_range, rules_outside_cells, rules_of_cells, broken_rules, is_invalid}
use Rattle.srt_group_model.specs.Lent.{Lent, Call, perform}
use Rattle.srt_group_model.specs.Laws.Fixed.{making_kept}
use Rattle.srt_group_model.specs.Laws.Unique.{names_kept}
use Rattle.srt_group_model.specs.Laws.Ascending.{ascending_kept}
use Rattle.srt_group_model.specs.Laws.CellsKept.{apart_of_rules}
use Rattle.srt_group_model.specs.Laws.CellsCalls.{cells_kept}
use Rattle.srt_group_model.specs.Laws.SumsKept.{sums_of_rule, rule_of_sums, sums_kept}
use Rattle.srt_group_model.specs.Sound.{EventFit, MemberFit, PacketFit, EntryFit, WaitingFit, Fit, InRound}
use Rattle.srt_group_model.specs.Laws.InRange.{in_range_of, of_in_range}
use Rattle.srt_group_model.specs.Laws.RangesCalls.{leg_of_rules, rules_of_leg, fit_kept}
use Rattle.srt_group_model.specs.Laws.Counts.{pending_few, waiting_kept}
use Rattle.srt_group_model.specs.Laws.Rounds.{round_kept}
use Rattle.srt_group_model.specs.Calls.{new, new_code}
use Rattle.srt_group_model.specs.Backup.{max_history}
use Rattle.srt_group_model.specs.declared.Event.{Event}
use Rattle.srt_group_model.specs.declared.Packet.{Packet}
use Rattle.srt_group_model.specs.declared.Entry.{Entry}
use Rattle.srt_group_model.specs.declared.Waiting.{Waiting}

-- ---- the rules, named

pub record Valid (cells : ℕ) (s : State) : Type 0 where
  pub blank : is_blank s ≡ false
  pub counts : count_above_limit s ≡ false
  pub sequences : sequence_too_large s ≡ false
  pub ids_once : id_twice s ≡ false
  pub ascending : held_sequence_twice s ≡ false
  pub cells_once : cell_twice s ≡ false
  pub cells_inside : cell_beyond_store cells s ≡ false
  pub sums : reserved_sum_wrong s ≡ false
  pub words : record_out_of_range s ≡ false
  pub fields : field_out_of_range s ≡ false

pub valid_of : (cells : ℕ) (s : State) → is_invalid cells s ≡ false → Valid cells s
unfolding is_invalid broken_rules rules_outside_cells rules_of_cells
valid_of cells s h =
    let rules = none_of (λ (rule : Bool). rule) (broken_rules cells s) h in
    search

pub of_valid : (cells : ℕ) (s : State) → Valid cells s → is_invalid cells s ≡ false
unfolding is_invalid broken_rules rules_outside_cells rules_of_cells
of_valid cells s h = of_none (λ (rule : Bool). rule) (broken_rules cells s) (search)

-- ---- ranges of a row

event_of_rules : (e : Event) → event_out_of_range e ≡ false → event_sequence_too_large e ≡ false → EventFit e
unfolding event_sequence_too_large
event_of_rules e h k = record { fields = h; sequence = k }

member_of_rules : (m : Member) → member_out_of_range m ≡ false → member_sequence_too_large m ≡ false → long_queue m ≡ false → MemberFit m
unfolding member_out_of_range membership_out_of_range membership_words member_sequence_too_large
member_of_rules m h k n =
    let words = in_range_of (membership_words m.membership) (search neither) in
    let leg = leg_of_rules m.leg (search neither) (search neither) in
    let queue =
    all_two _ _ EventFit event_of_rules m.queue (none_of event_out_of_range m.queue (search neither))
    (none_of event_sequence_too_large m.queue (search neither))
    in
    let short = ltb-false max_queued (length m.queue) n in
    search

fields_of_member : (m : Member) → MemberFit m → member_out_of_range m ≡ false
unfolding member_out_of_range membership_out_of_range membership_words
fields_of_member m h =
    no_either _ _ (of_in_range (membership_words m.membership) (search))
    (no_either _ _ (rules_of_leg m.leg h.leg).0 (of_none event_out_of_range m.queue (all_map EventFit _ (λ e k. k.fields) m.queue h.queue)))

sequences_of_member : (m : Member) → MemberFit m → member_sequence_too_large m ≡ false
unfolding member_sequence_too_large event_sequence_too_large
sequences_of_member m h =
    no_either _ _ (rules_of_leg m.leg h.leg).1 (of_none event_sequence_too_large m.queue (all_map EventFit _ (λ e k. k.sequence) m.queue h.queue))

packet_of_rules : (p : Packet) → packet_out_of_range p ≡ false → is_too_large p.content.sequence ≡ false → PacketFit p
unfolding packet_out_of_range packet_words
packet_of_rules p h k =
    let words = in_range_of (packet_words p) (search neither) in
    let fields : data_out_of_range p.content ≡ false = search neither in
    let sequence = ltb-false largest_sequence p.content.sequence k in
    search

fields_of_packet : (p : Packet) → PacketFit p → packet_out_of_range p ≡ false
unfolding packet_out_of_range packet_words
fields_of_packet p h = no_either _ _ (of_in_range (packet_words p) (search)) h.fields

entry_of_rules : (e : Entry) → entry_out_of_range e ≡ false → is_too_large e.sequence ≡ false → EntryFit e
unfolding entry_out_of_range entry_words
entry_of_rules e h k =
    let words = in_range_of (entry_words e) h in
    let sequence = ltb-false largest_sequence e.sequence k in
    search

fields_of_entry : (e : Entry) → EntryFit e → entry_out_of_range e ≡ false
unfolding entry_out_of_range entry_words
fields_of_entry e h = of_in_range (entry_words e) (search)

waiting_of_rules : (w : Waiting) → waiting_out_of_range w ≡ false → WaitingFit w
unfolding waiting_out_of_range waiting_words
waiting_of_rules w h =
    let words = in_range_of (waiting_words w) (search neither) in
    let some_kind : eqb w.kind 0 ≡ false = search neither in
    search

fields_of_waiting : (w : Waiting) → WaitingFit w → waiting_out_of_range w ≡ false
unfolding waiting_out_of_range waiting_words
fields_of_waiting w h = no_either _ _ h.some_kind (of_in_range (waiting_words w) (search))

-- ---- counts

pub record Counted (s : State) : Type 0 where
  pub members : length s.members ≤ max_members
  pub queues : any long_queue s.members ≡ false
  pub pending : length s.receive.pending ≤ max_pending
  pub waiting : length s.waiting ≤ max_waiting
  pub history : length s.send.history ≤ max_history
  pub round : InRound s

pub counted_of : (s : State) → count_above_limit s ≡ false → Counted s
unfolding count_above_limit counts
counted_of s h =
    let most = in_range_of (counts s) (search neither) in
    let queues : any long_queue s.members ≡ false = search neither in
    search

of_counted : (s : State) → Counted s → count_above_limit s ≡ false
unfolding count_above_limit counts
of_counted s h = no_either _ _ (of_in_range (counts s) (search)) h.queues

-- ---- ranges of a state

pub fit_of : (cells : ℕ) (s : State) → Valid cells s → Fit s
unfolding sequence_too_large any field_out_of_range record_out_of_range group_words
fit_of cells s h =
    let sequences = h.sequences in
    let fields = h.fields in
    let record_fits = h.words in
    let words = in_range_of (group_words s) (search neither) in
    let counted = counted_of s h.counts in
    let base = ltb-false largest_sequence s.receive.numbers.base (search neither) in
    let next = ltb-false largest_sequence s.send.numbers.next (search neither) in
    let members =
    all_two _ _ MemberFit (λ m x y. y x) s.members (none_of long_queue s.members counted.queues)
    (all_two _ _ (λ (m : Member). long_queue m ≡ false → MemberFit m) member_of_rules s.members
    (none_of member_out_of_range s.members (search neither))
    (none_of member_sequence_too_large s.members (search neither)))
    in
    let pending =
    all_two _ _ PacketFit packet_of_rules s.receive.pending
    (none_of packet_out_of_range s.receive.pending (search neither))
    (none_of (λ (p : Packet). is_too_large p.content.sequence) s.receive.pending (search neither))
    in
    let history =
    all_two _ _ EntryFit entry_of_rules s.send.history
    (none_of entry_out_of_range s.send.history (search neither))
    (none_of (λ (e : Entry). is_too_large e.sequence) s.send.history (search neither))
    in
    let waiting =
    all_map _ WaitingFit waiting_of_rules s.waiting (none_of waiting_out_of_range s.waiting (search neither))
    in
    search

sequences_of : (s : State) → Fit s → sequence_too_large s ≡ false
unfolding sequence_too_large any
sequences_of s h =
    no_either _ _
    (no_either _ _ (le-ltb largest_sequence s.receive.numbers.base h.receiving.base)
    (no_either _ _ (le-ltb largest_sequence s.send.numbers.next h.sending.next) refl))
    (no_either _ _
    (of_none (λ (p : Packet). is_too_large p.content.sequence) s.receive.pending (all_map PacketFit _ (λ p k. le-ltb largest_sequence p.content.sequence k.sequence) s.receive.pending h.pending))
    (no_either _ _
    (of_none (λ (e : Entry). is_too_large e.sequence) s.send.history (all_map EntryFit _ (λ e k. le-ltb largest_sequence e.sequence k.sequence) s.send.history h.history))
    (of_none member_sequence_too_large s.members (all_map MemberFit _ sequences_of_member s.members h.members))))

fields_of : (s : State) → Fit s → field_out_of_range s ≡ false
unfolding field_out_of_range
fields_of s h =
    no_either _ _ (of_none member_out_of_range s.members (all_map MemberFit _ fields_of_member s.members h.members))
    (no_either _ _ (of_none packet_out_of_range s.receive.pending (all_map PacketFit _ fields_of_packet s.receive.pending h.pending))
    (no_either _ _ (of_none entry_out_of_range s.send.history (all_map EntryFit _ fields_of_entry s.send.history h.history))
    (of_none waiting_out_of_range s.waiting (all_map WaitingFit _ fields_of_waiting s.waiting h.waiting))))

queues_of : (s : State) → Fit s → any long_queue s.members ≡ false
queues_of s h =
    of_none long_queue s.members (all_map MemberFit _ (λ m k. le-ltb max_queued (length m.queue) k.short) s.members h.members)

words_of : (s : State) → Fit s → any_above (group_words s) ≡ false
unfolding group_words
words_of s h = of_in_range (group_words s) (search)

cells_most : (length : ℕ) → cells_of length ≤ max_cells
cells_most length = omega arith

-- ---- the law

-- what is fixed at creation stays in its range, for no call moves it
made_kept : (c : Call) (lent : Lent) (s : State) → any_above (making_words s.making) ≡ false
    → any_above (making_words (perform c lent s).state.making) ≡ false
made_kept c lent s h = ap (λ (x : Making). any_above (making_words x)) (making_kept c lent s) ∙ h

pub valid_kept : (c : Call) (lent : Lent) (s : State) → is_invalid (cells_of (length lent.store)) s ≡ false
    → is_invalid (cells_of (length lent.store)) (perform c lent s).state ≡ false
unfolding id_twice held_sequence_twice is_blank cell_twice cell_beyond_store record_out_of_range
valid_kept c lent s invalid =
    let cells = cells_of (length lent.store) in
    let h = valid_of cells s invalid in
    let counts = counted_of s h.counts in
    let t = (perform c lent s).state in
    let named = names_kept c lent s record { unique = h.ids_once; few = counts.members } in
    let apart = cells_kept c lent s h.cells_once h.cells_inside in
    let right =
    sums_kept c lent s
    record { accounts = sums_of_rule s h.ids_once h.sums; ascending = not-false (ascends s.receive.pending) h.ascending }
    in
    let fit = fit_kept c lent s (fit_of cells s h) in
    of_valid cells t
    record {
      blank = ap (λ (x : Making). not (has_group_mask x.id)) (making_kept c lent s) ∙ h.blank;
      counts =
          of_counted t
          record {
            members = named.few;
            queues = queues_of t fit;
            pending = omega (arith, pending_few cells t (apart_of_rules cells (used_cells t) apart.0 apart.1), cells_most (length lent.store));
            waiting = waiting_kept c lent s counts.waiting;
            history = fit.remembered;
            round = round_kept c lent s counts.round;
          };
      sequences = sequences_of t fit;
      ids_once = named.unique;
      ascending = ascending_kept c lent s h.ascending;
      cells_once = apart.0;
      cells_inside = apart.1;
      sums = rule_of_sums t right.accounts;
      words = no_either _ _ (made_kept c lent s (or_left (any_above (making_words s.making)) _ h.words)) (words_of t fit);
      fields = fields_of t fit;
    }

-- what `new` accepts is in its range, and has the mark of a group id
pub record Accepted (making : Making) : Type 0 where
  pub in_range : any_above (making_words making) ≡ false
  pub marked : has_group_mask making.id ≡ true

pub accepted_of : (making : Making) → new_code making ≡ 0 → Accepted making
unfolding new_code if_true◌then◌else◌
accepted_of making h =
    let both = accepted (any_above (making_words making)) (has_group_mask making.id) h in
    record { in_range = both.0; marked = both.1 }
  where
    accepted : (out mask : Bool) → ◌≡◌ {A = ℕ} (if_true out then 2 else (if_true mask then 0 else 1)) 0 → (out ≡ false) × (mask ≡ true)
    accepted true mask e = absurd (omega (arith, e))
    accepted false true e = (refl, refl)
    accepted false false e = absurd (omega (arith, e))

-- a group that was just made is valid
pub new_valid : (making : Making) (cells : ℕ) → new_code making ≡ 0 → is_invalid cells (new making) ≡ false
unfolding new is_blank counts count_above_limit sequence_too_large id_twice one_twice held_sequence_twice ascends cell_twice cell_beyond_store used_cells queued_cells each reserved_sum_wrong such_that total record_out_of_range any any_above group_words field_out_of_range
new_valid making cells h =
    let accepted = accepted_of making h in
    let blank = ap not accepted.marked in
    let words = ap (λ (out : Bool). out || false) accepted.in_range in
    of_valid cells (new making) (search)

-- Validity over a store is validity over a larger one: a call that is lent no store asks for no less.
pub valid_wider : (cells more : ℕ) (s : State) → cells ≤ more → is_invalid cells s ≡ false → is_invalid more s ≡ false
unfolding cell_beyond_store
valid_wider cells more s wide invalid =
    let h = valid_of cells s invalid in
    let inside =
    of_none (leb more) (used_cells s)
    (all_map _ _ (λ n k. lt-leb more n (omega (arith, wide, leb-false cells n k))) (used_cells s) (none_of (leb cells) (used_cells s) h.cells_inside))
    in
    of_valid more s (search)
