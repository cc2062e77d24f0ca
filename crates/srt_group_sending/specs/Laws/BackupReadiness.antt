-- What is proved of the definitions in specs/BackupReadiness.antt, with what the proofs need.
use Rattle.std.specs.Prelude.{◌≡◌, Bool, ◌&&◌, ◌||◌, zero, suc, List, ℕ, ◌+◌, ◌%◌, ◌≤◌, ◌<◌, eqb, get_or, None, Option, Some}
use Rattle.std.proofs.Math.Path.{refl, ap, sym}
use Rattle.std.proofs.Common.{◌∙◌, arith}
use Rattle.std.proofs.Math.Bool.{true, false, not}
use Rattle.std.proofs.Math.Decide.{dec_lt}
use borrow.Author.Tests.{eq-eqb, ne_eqb, lt-ltb, le-ltb}
use Rattle.word_rows.specs.Laws.Tab.{tab_length}
use Rattle.std.specs.Bool.{IsTrue, then_some}
use Rattle.std.specs.Option.{MatchOption, option_or}
use Rattle.srt_group_model.specs.Tools.{if_true◌then◌else◌, if_some◌give◌otherwise◌, is_set, flagged, or_else, place_of, at_place}
use Rattle.srt_group_model.specs.State.{Member, send_side}
use Rattle.srt_group_model.specs.Laws.Flag.{set_is_not_zero, unset_none, set_some}
use Rattle.srt_group_model.specs.Legs.{has_sender, can_send, remaining_window_packets}
use Rattle.srt_group_model.specs.Members.{id_of, is_active, first_active, promotion}
use Rattle.srt_group_model.specs.Backup.{max_history, takes_over, ready_to_send, backup_member_ready, backup_send_ready}
use Rattle.srt_group_model.specs.declared.Entry.{Entry}
use Rattle.srt_group_model.specs.declared.Leg.{Leg}
use Rattle.srt_group_model.specs.declared.Sending.{Sending}
use Rattle.srt_connection_queue.specs.Laws.Tab.{tab_place, tab_past}
use Rattle.srt_connection_members.specs.Members.{members_in}
use Rattle.srt_connection_members.specs.Laws.Members.{found_some, found_none}
use Rattle.srt_group_members.specs.Laws.Scan.{sequence_some, sequence_none}
use Rattle.srt_group_members.specs.Rank.{shown}
use Rattle.srt_group_sending.specs.Laws.Rows.{some_and, row_there, row_found, row_promoted}
use Rattle.srt_group_tables.specs.Ring.{Arrays, word_sequence, entry_at, entries_of, send_of}
use Rattle.srt_group_tables.specs.declared.history.HistoryRing.{HistoryRing}
use Rattle.srt_group_sending.specs.BackupReadiness.{is_other_carrier, send_number, front_sequence, replay_length, replay_sequence, gap_allows, stands_at, could_take_over, MemberReady, BackupReady}

-- ---- the parts

pub no_carrier : (id : ℕ) (x : Sending) → x.carried ≡ 0 → false ≡ is_other_carrier id x
unfolding is_other_carrier if_some◌give◌otherwise◌
no_carrier id x h = sym (rw (unset_none x.carried x.carrier h))

pub other_carrier : (id : ℕ) (x : Sending) → (x.carried ≡ 0 → ⊥) → not (eqb x.carrier id) ≡ is_other_carrier id x
unfolding is_other_carrier if_some◌give◌otherwise◌
other_carrier id x h = sym (rw (set_some x.carried x.carrier h))

-- the same, of the carrier as an option
module _ (id : ℕ) (x : Sending) {carrier : Option ℕ} (is : carrier ≡ flagged (is_set x.carried) x.carrier) where
  pub nobody_carries : carrier ≡ None → false ≡ is_other_carrier id x
  unfolding is_other_carrier if_some◌give◌otherwise◌
  nobody_carries e = ap (λ (o : Option ℕ). if_some o give (λ k. not (eqb k id)) otherwise false) (sym e ∙ is)

  pub some_carry : (k : ℕ) → carrier ≡ Some k → not (eqb k id) ≡ is_other_carrier id x
  unfolding is_other_carrier if_some◌give◌otherwise◌
  some_carry k e = ap (λ (o : Option ℕ). if_some o give (λ k. not (eqb k id)) otherwise false) (sym e ∙ is)

  pub carried_by_other : {answer : Bool} → MatchOption carrier (answer ≡ false) (λ k. answer ≡ not (eqb k id)) → answer ≡ is_other_carrier id x
  unfolding is_other_carrier
  carried_by_other given =
      some_and (λ k. not (eqb k id)) carrier given
      ∙ ap (λ (o : Option ℕ). if_some o give (λ k. not (eqb k id)) otherwise false) is

-- whether a member takes over, whatever the history is
pub takes_over_is : (id : ℕ) (x : Sending) (h : List Entry) → is_other_carrier id x ≡ takes_over id (send_side x h)
unfolding is_other_carrier takes_over
takes_over_is id x h = refl

pub number_there : (x : Sending) → (x.numbered ≡ 0 → ⊥) → Some x.next ≡ send_number x
number_there x h = sym (rw (set_some x.numbered x.next h))

pub number_missing : (x : Sending) → x.numbered ≡ 0 → None ≡ send_number x
number_missing x h = sym (rw (unset_none x.numbered x.next h))

module _ (r : HistoryRing) (history : List ℕ) where
  pub front_missing : r.length ≡ 0 → None ≡ front_sequence r history
  unfolding front_sequence if_true◌then◌else◌
  front_missing e = sym (rw (eq-eqb r.length 0 e))

  pub front_there : {sequence : ℕ} → (r.length ≡ 0 → ⊥)
      → sequence ≡ word_sequence (get_or history ((r.start + 0) % max_history) 0) → Some sequence ≡ front_sequence r history
  unfolding front_sequence if_true◌then◌else◌
  front_there h is = ap (λ (n : ℕ). Some n) is ∙ sym (rw (ne_eqb r.length 0 h))

  pub front_shown : {sequence : ℕ} → sequence ≡ word_sequence (get_or history ((r.start + 0) % max_history) 0)
      → then_some (not (eqb r.length 0)) sequence ≡ front_sequence r history
  unfolding front_sequence if_true◌then◌else◌
  front_shown {sequence} is = by (eqb r.length 0) ∙ ap (λ (n : ℕ). if_true eqb r.length 0 then None else Some n) is
    where
      by : (b : Bool) → then_some (not b) sequence ≡ (if_true b then None else Some sequence)
      by true = refl
      by false = refl

  module _ (x : Sending) {takes : Bool} where
    pub no_replay : {number : Option ℕ} → takes ≡ false → number ≡ send_number x
        → number ≡ replay_sequence takes x r history
    unfolding replay_sequence if_true◌then◌else◌ or_else
    no_replay e is = is ∙ sym (rw e)

    pub nothing_to_replay : {front number : Option ℕ} → takes ≡ true → front ≡ front_sequence r history
        → front ≡ None → number ≡ send_number x → number ≡ replay_sequence takes x r history
    unfolding replay_sequence if_true◌then◌else◌ or_else
    nothing_to_replay e is_front missing is =
        is ∙ sym (rw (e, sequence_none (front_sequence r history) (sym missing ∙ is_front)))

    pub replay_from : {front : Option ℕ} (n : ℕ) → takes ≡ true → front ≡ front_sequence r history
        → front ≡ Some n → Some n ≡ replay_sequence takes x r history
    unfolding replay_sequence if_true◌then◌else◌ or_else
    replay_from n e is_front there = sym (rw (e, sequence_some (front_sequence r history) n (sym there ∙ is_front)))

    pub replay_or : {front number : Option ℕ} → takes ≡ true → front ≡ front_sequence r history → number ≡ send_number x
        → option_or front number ≡ replay_sequence takes x r history
    unfolding replay_sequence if_true◌then◌else◌ or_else
    replay_or {front} {number} e is_front is =
        same front ∙ ap (λ (o : Option ℕ). or_else o number) is_front ∙ ap (or_else (front_sequence r history)) is ∙ sym (rw e)
      where
        same : (o : Option ℕ) → option_or o number ≡ or_else o number
        same None = refl
        same (Some n) = refl

-- the same in one
unset_is_0 : (n : ℕ) → eqb n 0 ≡ not (is_set n)
unset_is_0 zero = refl
unset_is_0 (suc n) = ne_eqb (suc n) 0 (λ e. omega arith)

pub allows_when : (takes : Bool) (replay gap : ℕ) → (not takes || eqb replay 0 || eqb gap 0) ≡ gap_allows takes replay gap
unfolding gap_allows
allows_when true replay gap = ap (λ (b : Bool). eqb replay 0 || b) (unset_is_0 gap)
allows_when false replay gap = refl

module _ {takes : Bool} (replay gap : ℕ) where
  pub allows_without : takes ≡ false → true ≡ gap_allows takes replay gap
  unfolding gap_allows
  allows_without e = sym (rw e)

  pub allows_none : takes ≡ true → replay ≡ 0 → true ≡ gap_allows takes replay gap
  unfolding gap_allows
  allows_none e h = sym (rw (e, eq-eqb replay 0 h))

  pub allows_whole : takes ≡ true → (replay ≡ 0 → ⊥) → eqb gap 0 ≡ gap_allows takes replay gap
  unfolding gap_allows
  allows_whole e h = sym (rw (e, ne_eqb replay 0 h, set_is_not_zero gap) (twice (eqb gap 0)))
    where
      twice : (b : Bool) → not (not b) ≡ b
      twice true = refl
      twice false = refl

module _ (l : Leg) (sequence : Option ℕ) where
  pub stands_anywhere : sequence ≡ None → true ≡ stands_at sequence l
  unfolding stands_at if_some◌give◌otherwise◌
  stands_anywhere e = sym (rw e)

  pub stands_there : (n : ℕ) → sequence ≡ Some n → l.sender.next ≡ n → true ≡ stands_at sequence l
  unfolding stands_at if_some◌give◌otherwise◌
  stands_there n e h = sym (rw (e, eq-eqb l.sender.next n h))

  pub stands_elsewhere : (n : ℕ) → sequence ≡ Some n → (l.sender.next ≡ n → ⊥)
      → eqb l.sender.flight 0 ≡ stands_at sequence l
  unfolding stands_at if_some◌give◌otherwise◌
  stands_elsewhere n e h = sym (rw (e, ne_eqb l.sender.next n h))

  pub stands_if_some : (answer : Bool) → MatchOption sequence (IsTrue answer) (λ n. answer ≡ (eqb l.sender.next n || eqb l.sender.flight 0))
      → answer ≡ stands_at sequence l
  unfolding stands_at if_some◌give◌otherwise◌
  stands_if_some answer = go sequence answer
    where
      go : (o : Option ℕ) (b : Bool) → MatchOption o (IsTrue b) (λ n. b ≡ (eqb l.sender.next n || eqb l.sender.flight 0))
          → b ≡ (if_some o give (λ n. eqb l.sender.next n || eqb l.sender.flight 0) otherwise true)
      go None b given = given
      go (Some n) b given = given

  pub stands_if : (n : ℕ) → sequence ≡ Some n → (eqb l.sender.next n || eqb l.sender.flight 0) ≡ stands_at sequence l
  unfolding stands_at if_some◌give◌otherwise◌
  stands_if n e = sym (rw e)

pub replays_all : (r : HistoryRing) {takes : Bool} → takes ≡ true → r.length ≡ replay_length takes r
unfolding replay_length if_true◌then◌else◌
replays_all r e = sym (rw e)

pub replays_none : (r : HistoryRing) {takes : Bool} → takes ≡ false → 0 ≡ replay_length takes r
unfolding replay_length if_true◌then◌else◌
replays_none r e = sym (rw e)

-- ---- the take-over that a leg would make

module _ (id : ℕ) (x : Sending) (r : HistoryRing) (history : List ℕ) (l : Leg) {takes allows : Bool} {replay : ℕ}
    (is_takes : takes ≡ is_other_carrier id x) (is_replay : replay ≡ replay_length takes r)
    (is_allows : allows ≡ gap_allows takes replay x.gap) where
  pub gap_refuses : allows ≡ false → false ≡ could_take_over id x r history l
  unfolding could_take_over
  gap_refuses e = sym (rw (← is_takes, ← is_replay, ← is_allows, e))

  module _ {window : ℕ} (e : allows ≡ true) (is_window : window ≡ remaining_window_packets l) where
    pub window_refuses : window ≤ replay → false ≡ could_take_over id x r history l
    unfolding could_take_over
    window_refuses h = sym (rw (← is_takes, ← is_replay, ← is_allows, e, ← is_window, le-ltb replay window h))

    pub stands_decides : {sequence : Option ℕ} {stands : Bool} → replay < window
        → sequence ≡ replay_sequence takes x r history → stands ≡ stands_at sequence l
        → stands ≡ could_take_over id x r history l
    unfolding could_take_over
    stands_decides {sequence} {stands} h is_sequence is_stands =
        sym (rw (← is_takes, ← is_replay, ← is_allows, e, ← is_window, lt-ltb replay window h) (sym (is_stands ∙ as_option)))
      where
        as_option : stands_at sequence l ≡ stands_at (replay_sequence takes x r history) l
        as_option = ap (λ (o : Option ℕ). stands_at o l) is_sequence

-- ---- one member

front_is : (r : HistoryRing) (a : Arrays)
    → (if_some at_place 0 (entries_of r a) give (λ e. Some e.sequence) otherwise None) ≡ front_sequence r a.history
unfolding front_sequence if_true◌then◌else◌ if_some◌give◌otherwise◌
front_is r a = by (dec_lt 0 r.length)
  where
    by : Dec (0 < r.length)
        → (if_some at_place 0 (entries_of r a) give (λ e. Some e.sequence) otherwise None)
        ≡ (if_true eqb r.length 0 then None else Some (word_sequence (get_or a.history ((r.start + 0) % max_history) 0)))
    by (yes h) = rw (tab_place r.length (entry_at r a) 0 h, ne_eqb r.length 0 (λ e. omega arith))
    by (no h) = rw (tab_past r.length (entry_at r a) 0 (omega arith), eq-eqb r.length 0 (omega arith))

by_parts : (time : Option ℕ) (x : Sending) (r : HistoryRing) (a : Arrays) (m : Member)
    → backup_member_ready time (send_of x r a) m
    ≡ (ready_to_send time m.leg && (has_sender m.leg && could_take_over (id_of m) x r a.history m.leg))
unfolding backup_member_ready takes_over could_take_over gap_allows replay_length replay_sequence stands_at is_other_carrier
by_parts time x r a m = rw (tab_length r.length (entry_at r a), front_is r a)

module _ (time : Option ℕ) (x : Sending) (r : HistoryRing) (history : List ℕ) (m : Member) {leg : Leg} {can : Bool}
    (is_leg : leg ≡ m.leg) (is_can : can ≡ ready_to_send time leg) where
  member_parts : (a : Arrays) → a.history ≡ history
      → backup_member_ready time (send_of x r a) m
      ≡ (can && (has_sender leg && could_take_over (id_of m) x r history leg))
  member_parts a e =
      by_parts time x r a m
      ∙ ap (λ (l : List ℕ). ready_to_send time m.leg && (has_sender m.leg && could_take_over (id_of m) x r l m.leg)) e
      ∙ ap (λ (l : Leg). ready_to_send time l && (has_sender l && could_take_over (id_of m) x r history l)) (sym is_leg)
      ∙ ap (λ (b : Bool). b && (has_sender leg && could_take_over (id_of m) x r history leg)) (sym is_can)

  pub cannot_send_yet : can ≡ false → MemberReady time x r history m false
  cannot_send_yet e = record { is = λ a q. sym (member_parts a q ∙ rw e) }

  pub has_no_sender : {has : Bool} → can ≡ true → has ≡ has_sender leg → has ≡ false → MemberReady time x r history m false
  has_no_sender e is_has h = record { is = λ a q. sym (member_parts a q ∙ rw (e, ← is_has, h)) }

  pub ready_if_takes_over : {id : ℕ} {has answer : Bool} → can ≡ true → has ≡ has_sender leg → has ≡ true → id ≡ id_of m
      → answer ≡ could_take_over id x r history leg → MemberReady time x r history m answer
  ready_if_takes_over {id} {has} {answer} e is_has h is_id is_answer =
      record {
        is =
            λ a q.
            is_answer ∙ ap (λ (k : ℕ). could_take_over k x r history leg) is_id
            ∙ sym (member_parts a q ∙ rw (e, ← is_has, h));
      }

-- ---- the group

module _ (time : Option ℕ) (x : Sending) (r : HistoryRing) (history : List ℕ) (rows : List (List ℕ)) where
  pub no_active_not_ready : None ≡ first_active (members_in rows) → BackupReady time x r history (members_in rows) false
  unfolding backup_send_ready if_some◌give◌otherwise◌
  no_active_not_ready e =
      record {
        is = λ s a q members send. sym (rw (members, found_none (place_of is_active (members_in rows)) e));
      }

  module _ (i : ℕ) {leg : Leg} {can : Bool} (first : Some i ≡ first_active (members_in rows))
      (is_leg : leg ≡ (shown rows i).leg) (is_can : can ≡ can_send leg) where
    first_found : place_of is_active (members_in rows) ≡ Some i
    first_found = found_some (place_of is_active (members_in rows)) i first

    first_there : at_place i (members_in rows) ≡ Some (shown rows i)
    first_there = row_there i rows (row_found is_active rows i first)

    can_is : can_send (shown rows i).leg ≡ can
    can_is = sym (is_can ∙ ap can_send is_leg)

    pub first_decides : {answer : Bool} → can ≡ true → MemberReady time x r history (shown rows i) answer
        → BackupReady time x r history (members_in rows) answer
    unfolding backup_send_ready if_some◌give◌otherwise◌ if_true◌then◌else◌
    first_decides e ready =
        record {
          is = λ s a q members send. ready.is a q ∙ sym (rw (members, send, first_found, first_there, can_is, e));
        }

    pub nobody_to_promote : can ≡ false → None ≡ promotion (members_in rows) → BackupReady time x r history (members_in rows) false
    unfolding backup_send_ready if_some◌give◌otherwise◌ if_true◌then◌else◌
    nobody_to_promote e nobody =
        record {
          is =
              λ s a q members send.
              sym (rw (members, first_found, first_there, can_is, e, found_none (promotion (members_in rows)) nobody));
        }

    pub promoted_decides : {answer : Bool} (j : ℕ) → can ≡ false → Some j ≡ promotion (members_in rows)
        → MemberReady time x r history (shown rows j) answer → BackupReady time x r history (members_in rows) answer
    unfolding backup_send_ready if_some◌give◌otherwise◌ if_true◌then◌else◌
    promoted_decides j e promoted ready =
        record {
          is =
              λ s a q members send.
              ready.is a q
              ∙ sym
              (rw (
                members,
                send,
                first_found,
                first_there,
                can_is,
                e,
                found_some (promotion (members_in rows)) j promoted,
                row_there j rows (row_promoted rows j promoted),
              ));
        }
