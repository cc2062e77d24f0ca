-- What is proved of the definitions in specs/Outside.antt, with what the proofs need.
use Rattle.std.specs.Prelude.{◌≡◌, Bool, true, ◌&&◌, ◌||◌, List, ℕ, ◌-◌, leb, ltb, length}
use Rattle.std.proofs.Math.Path.{refl, sym}
use Rattle.std.proofs.Common.{ap, ◌∙◌, arith}
use Rattle.std.proofs.Math.Bool.{false, not}
use borrow.Author.Tests.{not-false, ltb-true, ltb-false, lt-ltb, le-ltb, le-leb, lt-leb}
use Rattle.srt_protocol.specs.Handshake.{has_group_mask}
use Rattle.srt_group_model.specs.Tools.{any, each}
use Rattle.srt_group_model.specs.Laws.Reason.{by_test, and_yes, neither, no_either, or_left, or_right, or_yes_left, or_yes_right, or_assoc, any_order, or_no, any_agree, any_append}
use Rattle.srt_group_model.specs.State.{Member, State}
use Rattle.srt_group_model.specs.Members.{id_of}
use Rattle.srt_group_model.specs.Backup.{max_history}
use Rattle.srt_group_model.specs.Validity.{above, any_above, is_blank, max_queued, long_queue, counts, count_above_limit, is_too_large, event_sequence_too_large, member_sequence_too_large, sequence_too_large, one_twice, id_twice, ascends, held_sequence_twice, cell_twice, cell_beyond_store, reserved_sum_wrong, group_words, record_out_of_range, event_out_of_range, member_out_of_range, packet_out_of_range, entry_out_of_range, waiting_out_of_range, field_out_of_range, rules_outside_cells, rules_of_cells, broken_rules, is_invalid}
use Rattle.srt_group_model.specs.Laws.InRange.{in_range_of, of_in_range}
use Rattle.srt_group_model.specs.declared.Core.{Core}
use Rattle.srt_group_model.specs.declared.Identity.{Identity}
use Rattle.srt_group_model.specs.declared.Sending.{Sending}
use Rattle.srt_group_model.specs.declared.Event.{Event}
use Rattle.srt_group_model.specs.declared.Entry.{Entry}
use Rattle.srt_group_model.specs.declared.Packet.{Packet}
use Rattle.srt_connection_members.specs.Members.{members_of}
use Rattle.srt_connection_members.specs.Laws.Members.{members_length}
use Rattle.srt_group_tables.specs.Packets.{packets}
use Rattle.srt_group_tables.specs.Waitings.{waitings}
use Rattle.word_rows.specs.Laws.Tab.{tab_length}
use Rattle.srt_group_shown.specs.Shown.{rest, shown}
use Rattle.srt_group_rules.specs.Rules.{event_breaks_rule, queue_breaks_rule, leg_breaks_rule, member_breaks_rule, packet_breaks_rule, entry_breaks_rule, history_breaks_rule}
use Rattle.srt_group_rules.specs.Laws.Walks.{any_or}
use Rattle.srt_group_rules.specs.Sums.{accounts_wrong}
use Rattle.srt_group_rules.specs.Laws.Sums.{accounts_wrong_is}
use Rattle.srt_group_state.specs.Outside.{breaks_rule_outside_cells, core_counts, words_out_of_range, numbers_break_rule, CountsWithin}
use Rattle.srt_group_state.specs.Passes.{TablesGood}

pub invalid_is : (cells : ℕ) (s : State) → is_invalid cells s ≡ (breaks_rule_outside_cells s || (cell_twice s || cell_beyond_store cells s))
unfolding is_invalid broken_rules breaks_rule_outside_cells rules_of_cells any
invalid_is cells s = any_append (λ (rule : Bool). rule) (rules_outside_cells s) (rules_of_cells cells s) ∙ simp or_no

-- ---- the numbers of the core

-- the round's place, as the code tests it without a subtraction
pub round_test : (n r : ℕ) → (ltb 0 r && leb n r) ≡ ltb (n - 1) r
round_test n r =
    by_test (ltb (n - 1) r)
    (λ e. and_yes _ _ (lt-ltb 0 r (omega (arith, ltb-true (n - 1) r e))) (le-leb n r (omega (arith, ltb-true (n - 1) r e))) ∙ sym e)
    (λ e. and_no (ltb 0 r) _ (λ p. lt-leb n r (omega (arith, ltb-false (n - 1) r e, ltb-true 0 r p))) ∙ sym e)
  where
    and_no : (a b : Bool) → (a ≡ true → b ≡ false) → (a && b) ≡ false
    and_no true b h = h refl
    and_no false b h = refl

pub numbers_tested : (identity : Identity) (c : Core) (sending : Sending) (b l w : Bool) → b ≡ not (has_group_mask identity.id)
    → l ≡ any_above (core_counts c) → w ≡ words_out_of_range identity c sending
    → ((((b || l) || is_too_large c.receiving.base) || is_too_large sending.next) || w) ≡ numbers_break_rule identity c sending
unfolding numbers_break_rule
numbers_tested identity c sending b l w b_is l_is w_is = simp (or_assoc, b_is, l_is, w_is)

pub counts_within : (identity : Identity) (c : Core) (sending : Sending) → numbers_break_rule identity c sending ≡ false → CountsWithin c
unfolding numbers_break_rule core_counts
counts_within identity c sending h =
    let most = in_range_of (core_counts c) (search neither) in
    search

-- ---- the rows: a walk tests each row once, a rule asks one thing of all

queue_parts : (q : List Event) → any event_breaks_rule q ≡ (any event_sequence_too_large q || any event_out_of_range q)
unfolding event_breaks_rule
queue_parts q = any_or event_sequence_too_large event_out_of_range q

member_parts : (m : Member) → member_breaks_rule m ≡ (above max_queued (length m.queue) || (member_sequence_too_large m || member_out_of_range m))
unfolding member_breaks_rule leg_breaks_rule queue_breaks_rule member_sequence_too_large member_out_of_range
member_parts m = simp (queue_parts, any_order)

members_parts : (ms : List Member)
    → any member_breaks_rule ms ≡ (any long_queue ms || (any member_sequence_too_large ms || any member_out_of_range ms))
members_parts ms =
    any_agree _ _ member_parts ms ∙ any_or long_queue (λ (m : Member). member_sequence_too_large m || member_out_of_range m) ms
    ∙ ap (λ (b : Bool). any long_queue ms || b) (any_or member_sequence_too_large member_out_of_range ms)

packet_parts : (ps : List Packet)
    → any packet_breaks_rule ps ≡ (any (λ (p : Packet). is_too_large p.content.sequence) ps || any packet_out_of_range ps)
unfolding packet_breaks_rule
packet_parts ps = any_or (λ (p : Packet). is_too_large p.content.sequence) packet_out_of_range ps

entry_parts : (es : List Entry)
    → any entry_breaks_rule es ≡ (any (λ (e : Entry). is_too_large e.sequence) es || any entry_out_of_range es)
unfolding entry_breaks_rule
entry_parts es = any_or (λ (e : Entry). is_too_large e.sequence) entry_out_of_range es

-- ---- the passes test the rules

-- as they go: the numbers of the record, the waiting events, the members and the held packets, the history
unfoldable walked : Identity → Core → Sending → List Entry → (members pending waiting : List ℕ) → Bool
walked identity c sending history members pending waiting =
    let ms = members_of c.counts.members members in
    let ps = packets c.counts.pending pending in
    numbers_break_rule identity c sending
    || (any waiting_out_of_range (waitings c.counts.waiting waiting)
    || ((one_twice (each id_of ms) || (any member_breaks_rule ms || (any packet_breaks_rule ps || (not (ascends ps) || accounts_wrong ms ps c.own))))
    || history_breaks_rule history))

module _ (identity : Identity) (c : Core) (sending : Sending) (history : List Entry) (members pending waiting : List ℕ) where
  member_count : length (members_of c.counts.members members) ≡ c.counts.members
  member_count = members_length c.counts.members members

  packet_count : length (packets c.counts.pending pending) ≡ c.counts.pending
  packet_count = tab_length c.counts.pending _

  waiting_count : length (waitings c.counts.waiting waiting) ≡ c.counts.waiting
  waiting_count = tab_length c.counts.waiting _

  same_test : (a b : Bool) → (a ≡ false → b ≡ false) → (b ≡ false → a ≡ false) → a ≡ b
  same_test true true f g = refl
  same_test true false f g = g refl
  same_test false true f g = sym (f refl)
  same_test false false f g = refl

  abbrev state : State
  state = shown c (rest identity sending history) members pending waiting

  counts_shown : any_above (counts state) ≡ (any_above (core_counts c) || above max_history (length history))
  unfolding counts core_counts
  counts_shown =
      same_test _ _
      (λ e.
      let most = in_range_of (counts state) e in
      no_either _ _ (of_in_range (core_counts c) (search (arith, member_count, packet_count, waiting_count))) (le-ltb max_history (length history) (search)))
      (λ e.
      let most = in_range_of (core_counts c) (search neither) in
      let remembered = ltb-false max_history (length history) (search neither) in
      of_in_range (counts state) (search (arith, member_count, packet_count, waiting_count)))

  sums_shown : accounts_wrong state.members state.receive.pending c.own ≡ reserved_sum_wrong state
  sums_shown = accounts_wrong_is state

  words_shown : words_out_of_range identity c sending ≡ record_out_of_range state
  unfolding words_out_of_range record_out_of_range group_words
  words_shown = refl

  walked_is : walked identity c sending history members pending waiting ≡ breaks_rule_outside_cells state
  unfolding walked numbers_break_rule history_breaks_rule is_blank breaks_rule_outside_cells rules_outside_cells any count_above_limit sequence_too_large id_twice held_sequence_twice field_out_of_range
  walked_is =
      simp (members_parts, packet_parts, entry_parts, counts_shown, sums_shown, words_shown)
      (rw regrouped)
    where
      -- the same tests, by table as the walks go and by rule as document 01 says them
      regrouped : (blank counts base next words queues legs members packets held waits ids order sums many entries past : Bool)
          → ((blank || (counts || (base || (next || words)))) || (waits || ((ids || ((queues || (legs || members)) || ((packets || held) || (order || sums)))) || (many || (entries || past)))))
          ≡ (blank || (((counts || many) || queues) || (((base || (next || false)) || (packets || (entries || legs))) || (ids || (order || (sums || (words || ((members || (held || (past || waits))) || false))))))))
      regrouped blank counts base next words queues legs members packets held waits ids order sums many entries past = simp (or_no, any_order)

  -- ---- the answers of the code

  abbrev good : Type 0
  good = TablesGood (members_of c.counts.members members) (packets c.counts.pending pending) c.own

  abbrev tables_wrong : Bool
  tables_wrong =
      let ms = members_of c.counts.members members in
      let ps = packets c.counts.pending pending in
      one_twice (each id_of ms) || (any member_breaks_rule ms || (any packet_breaks_rule ps || (not (ascends ps) || accounts_wrong ms ps c.own)))

  abbrev waits_wrong : Bool
  waits_wrong = any waiting_out_of_range (waitings c.counts.waiting waiting)

  pub outside_numbers : (b : Bool) → b ≡ numbers_break_rule identity c sending → b ≡ true → breaks_rule_outside_cells state ≡ true
  unfolding walked
  outside_numbers b is e = sym walked_is ∙ or_yes_left (numbers_break_rule identity c sending) _ (sym is ∙ e)

  pub outside_waiting : (b : Bool) → b ≡ waits_wrong → b ≡ true → breaks_rule_outside_cells state ≡ true
  unfolding walked
  outside_waiting b is e =
      sym walked_is ∙ or_yes_right (numbers_break_rule identity c sending) _ (or_yes_left waits_wrong _ (sym is ∙ e))

  -- the rest of the rules are those of the tables and the history
  pub outside_none : (b w : Bool) → b ≡ numbers_break_rule identity c sending → b ≡ false → w ≡ waits_wrong → w ≡ false
      → good → history_breaks_rule history ≡ false → breaks_rule_outside_cells state ≡ false
  unfolding walked
  outside_none b w b_is b_no w_is w_no tables past =
      sym walked_is
      ∙ no_either (numbers_break_rule identity c sending) _ (sym b_is ∙ b_no)
      (no_either waits_wrong _ (sym w_is ∙ w_no) (no_either tables_wrong _ tables_right past))
    where
      tables_right : tables_wrong ≡ false
      tables_right =
          no_either _ _ tables.ids
          (no_either _ _ tables.rows.members
          (no_either _ _ tables.rows.packets (no_either _ _ (ap not tables.rows.order) tables.rows.sums)))

  module _ (none_broken : breaks_rule_outside_cells state ≡ false) where
    rest_right : (tables_wrong || history_breaks_rule history) ≡ false
    unfolding walked
    rest_right = or_right waits_wrong _ (or_right (numbers_break_rule identity c sending) _ (walked_is ∙ none_broken))

    pub tables_good : good
    tables_good =
        let ms = members_of c.counts.members members in
        let ps = packets c.counts.pending pending in
        let tables = or_left tables_wrong (history_breaks_rule history) rest_right in
        let rows = or_right (one_twice (each id_of ms)) _ tables in
        let later = or_right (any member_breaks_rule ms) _ rows in
        let last = or_right (any packet_breaks_rule ps) _ later in
        record {
          ids = or_left (one_twice (each id_of ms)) _ tables;
          rows =
              record {
                members = or_left (any member_breaks_rule ms) _ rows;
                packets = or_left (any packet_breaks_rule ps) _ later;
                order = not-false (ascends ps) (or_left (not (ascends ps)) _ last);
                sums = or_right (not (ascends ps)) _ last;
              };
        }

    pub history_right : history_breaks_rule history ≡ false
    history_right = or_right tables_wrong (history_breaks_rule history) rest_right
