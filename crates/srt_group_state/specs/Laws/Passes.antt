-- What one pass over a table finds, from what it finds row by row.
use Rattle.std.specs.Prelude.{◌≡◌, Bool, true, false, ◌||◌, ℕ, zero, suc, ◌+◌, ◌-◌, ◌≤◌, ◌<◌, eqb, ltb, length, None, Option, Some}
use Rattle.std.proofs.Math.Path.{refl, ap}
use Rattle.std.proofs.Common.{sym, subst, ◌∙◌, add-one}
use Rattle.std.proofs.Math.Bool.{not}
use mathlib.Core.List.{List, [], ◌∷◌, ◌++◌}
use Rattle.std.proofs.Math.Decide.{dec_lt}
use native.Mathlib.Omega.{arith}
use borrow.Author.Tests.{eq-eqb, eqb-true, eqb-false, lt-ltb, ltb-true, ltb-false}
use Rattle.srt_group_model.specs.Tools.{any, each, such_that}
use Rattle.srt_group_model.specs.Laws.Reason.{by_test, not_both, or_left, or_right, or_cases, no_either, or_yes_left}
use Rattle.srt_group_model.specs.Laws.CellsKept.{occurs_append}
use Rattle.srt_group_model.specs.State.{Member}
use Rattle.srt_group_model.specs.Members.{id_of}
use Rattle.srt_group_model.specs.Nearest.{sequence_of}
use Rattle.srt_group_model.specs.Sound.{occurs, pending_cells, history_cells}
use Rattle.srt_group_model.specs.Cells.{is_data, queue_cells, queued_cells}
use Rattle.srt_group_model.specs.Validity.{max_queued, max_members, one_twice, ascends, queued_count, is_unreserved, membership_out_of_range, member_sum_wrong, is_too_large}
use Rattle.srt_group_model.specs.Legs.{largest_sequence}
use Rattle.srt_group_model.specs.Accounts.{unlike}
use Rattle.srt_group_model.specs.Backup.{max_history}
use Rattle.srt_group_model.specs.declared.Account.{Account}
use Rattle.srt_group_model.specs.declared.Entry.{Entry}
use Rattle.srt_group_model.specs.declared.Event.{Event}
use Rattle.srt_group_model.specs.declared.Leg.{Leg}
use Rattle.srt_group_model.specs.declared.Membership.{Membership}
use Rattle.srt_group_model.specs.declared.Packet.{Packet}
use Rattle.word_rows.specs.Tab.{tab}
use Rattle.cell_set.specs.Marks.{Marking, Marks}
use Rattle.srt_connection_queue.specs.declared.rows.Ring.{Ring}
use Rattle.srt_connection_queue.specs.Rows.{receiver_part, part, ring_of, member_of}
use Rattle.srt_connection_members.specs.Members.{member_in}
use Rattle.srt_group_rules.specs.Ids.{members_upto}
use Rattle.srt_group_tables.specs.Packets.{packet_at, packets}
use Rattle.srt_group_tables.specs.Laws.PacketLaws.{ascends_up}
use Rattle.srt_group_tables.specs.Ring.{Arrays, entry_at, entries_of}
use Rattle.srt_group_tables.specs.declared.history.HistoryRing.{HistoryRing}
use Rattle.srt_group_rules.specs.Rules.{event_breaks_rule, queue_breaks_rule, leg_breaks_rule, member_breaks_rule, packet_breaks_rule, entry_breaks_rule, history_breaks_rule}
use Rattle.srt_group_rules.specs.Sums.{account_place, differs, accounts_wrong, own_place, account_at, Adding, member_differs, index_of, accounts_differ}
use Rattle.srt_group_rules.specs.Laws.Walks.{any_nowhere, none_there, queued, the_queue, queue_too_long, queue_walked, history_too_long, history_walked}
use Rattle.srt_group_rules.specs.Laws.Sums.{Queued, queued_all, placed_nowhere, placed_somewhere, wrong_is}
use Rattle.srt_group_state.specs.Cells.{event_cells}
use Rattle.srt_group_state.specs.Passes.{Passes, QueueGood, MemberGood, PacketGood, RowsGood, TablesGood, is_nothing, PlacesPacket}
use Rattle.srt_group_state.specs.Laws.Cells.{answered_true, answered_false, nothing_marked, marks_as, joined, joined_next, joined_more, events_are, entries_are, pending_are, queues_are}

-- ---- one test, one cell

module _ {cells : ℕ} {good : Type 0} {named before after : List ℕ} where
  -- a rule is broken
  pub passes_broken : (good → ⊥) → Passes cells good named before true after
  passes_broken never = record { clean = λ e. not_both refl e; marks = λ e. not_both refl e; broken = λ e fine fits. never fine }

  module _ (m : Bool) (marks : Marks cells named before m after) where
    -- the cells cannot be marked
    pub passes_refused : not m ≡ true → Passes cells good named before true after
    passes_refused refused =
        record {
          clean = λ e. not_both refl e;
          marks = λ e. not_both refl e;
          broken = λ e fine fits. marks.broken (answered_false m refused) fits;
        }

    pub passes_marked : good → not m ≡ false → Passes cells good named before false after
    passes_marked fine taken =
        record {
          clean = λ e. fine;
          marks = λ e. subst (λ (b : Bool). Marks cells named before b after) (answered_true m taken) marks;
          broken = λ e. not_both e refl;
        }

  pub passes_same : {other : Type 0} {r : Bool} → (good → other) → (other → good) → Passes cells good named before r after
      → Passes cells other named before r after
  passes_same to from passes =
      record { clean = λ e. to (passes.clean e); marks = passes.marks; broken = λ e fine. passes.broken e (from fine) }

  pub passes_answered : {r answer : Bool} → r ≡ answer → Passes cells good named before r after → Passes cells good named before answer after
  passes_answered is passes = subst (λ (b : Bool). Passes cells good named before b after) is passes

-- ---- one table after another

module _ {cells : ℕ} {good other : Type 0} {l before : List ℕ} where
  pub first_stops : {here : List ℕ} → Passes cells good l before true here → (other → good) → (m : List ℕ) → Passes cells other (l ++ m) before true here
  first_stops first from m =
      record {
        clean = λ e. not_both refl e;
        marks = λ e. not_both refl e;
        broken = λ e fine fits. first.broken refl (from fine) (λ n. omega (arith, fits n, occurs_append n l m));
      }

  pub passes_then : {m : List ℕ} {r : Bool} {here after : List ℕ} → Marks cells l before true here → Passes cells good m here r after → (good → other)
      → (other → good) → Passes cells other (l ++ m) before r after
  passes_then {m} first second to from =
      record {
        clean = λ e. to (second.clean e);
        marks =
            λ e.
            record {
              marked = λ t n. omega (arith, first.marked refl n, (second.marks e).marked refl n, occurs_append n l m);
              kept = λ t. (second.marks e).kept refl;
              broken = λ t. not_both refl t;
            };
        broken =
            λ e fine fits.
            second.broken e (from fine) (λ n. omega (arith, fits n, first.marked refl n, occurs_append n l m));
      }

-- the cells in another order
pub passes_named : {cells : ℕ} {good : Type 0} {l m before after : List ℕ} {r : Bool} → ((n : ℕ) → occurs n l ≡ occurs n m)
    → Passes cells good l before r after → Passes cells good m before r after
passes_named same passes =
    record {
      clean = passes.clean;
      marks =
          λ e.
          record {
            marked = λ t n. (passes.marks e).marked t n ∙ ap (◌+◌ _) (same n);
            kept = (passes.marks e).kept;
            broken = λ t. not_both refl t;
          };
      broken = λ e fine fits. passes.broken e fine (λ n. omega (arith, fits n, same n));
    }

-- ---- a loop over places: those passed are good, and their cells are marked

pub record PassedTo (cells : ℕ) (good : ℕ → Type 0) (names : ℕ → List ℕ) (count : ℕ) (before : List ℕ) (at : ℕ) (here : List ℕ) : Type 0 where
  pub within : at ≤ count
  pub goods : (i : ℕ) → i < at → good i
  pub marks : Marks cells (joined at names) before true here
  pub marking : Marking cells here

pub passing_start : (cells : ℕ) (good : ℕ → Type 0) (names : ℕ → List ℕ) (count : ℕ) (before : List ℕ) → Marking cells before
    → PassedTo cells good names count before 0 before
unfolding joined
passing_start cells good names count before marking =
    record { within = omega arith; goods = λ i below. absurd (omega arith); marks = nothing_marked cells before marking; marking = marking }

module _ {cells : ℕ} {good : ℕ → Type 0} {names : ℕ → List ℕ} {count : ℕ} {before : List ℕ} {at : ℕ} {here : List ℕ}
    (sofar : PassedTo cells good names count before at here) where
  module _ (more : at < count) {r : Bool} {after : List ℕ} (step : Passes cells (good at) (names at) here r after) where
    next_occurs : (n : ℕ) → occurs n (joined (suc at) names) ≡ occurs n (joined at names) + occurs n (names at)
    next_occurs n = ap (occurs n) (joined_next at names) ∙ occurs_append n (joined at names) (names at)

    pub passing_on : r ≡ false → PassedTo cells good names count before (at + 1) after
    passing_on e =
        record {
          within = omega arith;
          goods = λ i below. one_more i below (dec_lt i at);
          marks =
              rw add-one
              (record {
                marked = λ t n. omega (arith, sofar.marks.marked refl n, (step.marks e).marked refl n, next_occurs n);
                kept = λ t. (step.marks e).kept refl;
                broken = λ t. not_both refl t;
              });
          marking = (step.marks e).kept refl;
        }
      where
        one_more : (i : ℕ) → i < at + 1 → Dec (i < at) → good i
        one_more i below (yes lower) = sofar.goods i lower
        one_more i below (no other) = let last : at ≡ i = omega arith in subst good last (step.clean e)

    pub passing_stopped : {all : List ℕ} → joined count names ≡ all → r ≡ true → Passes cells ((i : ℕ) → i < count → good i) all before true after
    passing_stopped {all} are e =
        record {
          clean = λ t. not_both refl t;
          marks = λ t. not_both refl t;
          broken =
              λ t fine fits.
              step.broken e (fine at more)
              (λ n.
              omega (
                arith,
                fits n,
                ap (occurs n) are,
                joined_more (suc at) count names n (omega arith),
                next_occurs n,
                sofar.marks.marked refl n,
              ));
        }

  pub passing_done : {all : List ℕ} → joined count names ≡ all → count ≤ at → Passes cells ((i : ℕ) → i < count → good i) all before false here
  passing_done {all} are through =
      record {
        clean = λ e i below. sofar.goods i (omega arith);
        marks = λ e. marks_as (ap (λ (k : ℕ). joined k names) same ∙ are) sofar.marks;
        broken = λ e. not_both e refl;
      }
    where
      same : at ≡ count
      same = omega (arith, sofar.within)

-- ---- a leg's queue

-- the event so many places after the front breaks no rule; the cell that it names
abbrev pub event_good : List ℕ → Ring → ℕ → Type 0
event_good row ring i = event_breaks_rule (queued row ring i) ≡ false

abbrev pub event_names : List ℕ → Ring → ℕ → List ℕ
event_names row ring i = event_cells (queued row ring i)

module _ (row : List ℕ) (ring : Ring) where
  -- the event at the place was read and tested
  module _ (cells at : ℕ) (here : List ℕ) (e : Event) (read : e ≡ queued row ring at) (b : Bool) (tested : b ≡ event_breaks_rule e) where
    pub event_broken : b ≡ true → Passes cells (event_good row ring at) (event_names row ring at) here true here
    event_broken is = passes_broken (λ fine. not_both (sym tested ∙ is) (ap event_breaks_rule read ∙ fine))

    module _ (m : Bool) (after : List ℕ) (marks : Marks cells (event_cells e) here m after) where
      marks_there : Marks cells (event_names row ring at) here m after
      marks_there = marks_as (ap event_cells read) marks

      pub event_refused : not m ≡ true → Passes cells (event_good row ring at) (event_names row ring at) here true after
      event_refused refused = passes_refused m marks_there refused

      pub event_passed : b ≡ false → not m ≡ false → Passes cells (event_good row ring at) (event_names row ring at) here false after
      event_passed fine taken = passes_marked m marks_there (ap event_breaks_rule (sym read) ∙ sym tested ∙ fine) taken

  module _ (is_ring : ring ≡ ring_of (part row receiver_part)) (reserved : ℕ) where
    queue_is : joined ring.length (event_names row ring) ≡ queue_cells (member_of row)
    unfolding queue_cells
    queue_is =
        events_are ring.length (queued row ring)
        ∙ ap (λ (q : List Event). each (λ (e : Event). e.content.cell) (such_that is_data q)) (sym (the_queue row ring is_ring))

    events_good : QueueGood reserved (member_of row).queue → (i : ℕ) → i < ring.length → event_good row ring i
    unfolding queue_breaks_rule
    events_good good i below =
        none_there event_breaks_rule ring.length (queued row ring)
        (ap (any event_breaks_rule) (sym (the_queue row ring is_ring)) ∙ or_right (ltb max_queued (length (member_of row).queue)) _ good.rules) i below

    pub queue_long : {cells : ℕ} {before after : List ℕ} → max_queued < ring.length
        → Passes cells (QueueGood reserved (member_of row).queue) (queue_cells (member_of row)) before true after
    queue_long long = passes_broken (λ good. not_both (sym (queue_too_long row ring is_ring long)) good.rules)

    module _ {cells : ℕ} {before : List ℕ} {at : ℕ} {here : List ℕ}
        (sofar : PassedTo cells (event_good row ring) (event_names row ring) ring.length before at here) where
      pub queue_stopped : {after : List ℕ} → at < ring.length → Passes cells (event_good row ring at) (event_names row ring at) here true after
          → Passes cells (QueueGood reserved (member_of row).queue) (queue_cells (member_of row)) before true after
      queue_stopped more step =
          let stopped = passing_stopped sofar more step queue_is refl in
          record {
            clean = λ e. not_both refl e;
            marks = λ e. not_both refl e;
            broken = λ e good fits. stopped.broken refl (events_good good) fits;
          }

      pub queue_passed : (sum : ℕ) → ring.length ≤ max_queued → Queued row ring at sum → ring.length ≤ at
          → Passes cells (QueueGood reserved (member_of row).queue) (queue_cells (member_of row)) before (not (eqb sum reserved)) here
      queue_passed sum short added through =
          by_test (eqb sum reserved)
          (λ e.
          subst (λ (b : Bool). Passes cells (QueueGood reserved (member_of row).queue) (queue_cells (member_of row)) before (not b) here) (sym e)
          (passes_same
          (λ goods.
          record {
            rules = sym (queue_walked row ring is_ring short (sym (any_nowhere event_breaks_rule ring.length (queued row ring) goods)));
            sum = sym sum_is ∙ eqb-true sum reserved e;
          })
          events_good (passing_done sofar queue_is through)))
          (λ e.
          subst (λ (b : Bool). Passes cells (QueueGood reserved (member_of row).queue) (queue_cells (member_of row)) before (not b) here) (sym e)
          (passes_broken (λ good. eqb-false sum reserved e (sum_is ∙ good.sum))))
        where
          sum_is : sum ≡ queued_count (member_of row).queue
          sum_is = queued_all row ring at sum added is_ring through

-- ---- a member's row

module _ (held : Account) (m : Member) where
  abbrev reserved_wrong : Bool
  reserved_wrong = not (eqb m.leg.receiver.reserved (held.reserved + queued_count m.queue))

  reserved_right : reserved_wrong ≡ false → m.leg.receiver.reserved ≡ held.reserved + queued_count m.queue
  reserved_right right = by_test (eqb m.leg.receiver.reserved (held.reserved + queued_count m.queue)) (λ e. eqb-true _ _ e) (λ e. not_both (ap not e) right)

  -- what was read of the row, and tested
  module _ (x : Membership) (l : Leg) (a b u : Bool) (x_is : x ≡ m.membership) (a_is : a ≡ membership_out_of_range x) (l_is : l ≡ m.leg)
      (b_is : b ≡ leg_breaks_rule l) (u_is : u ≡ unlike x.account held) where
    pub member_broken : {cells : ℕ} {named before after : List ℕ} → ((a || b) || u) ≡ true → Passes cells (MemberGood held m) named before true after
    unfolding member_breaks_rule differs
    member_broken found =
        passes_broken
        (λ good.
        or_cases (a || b) u found
        (λ e.
        or_cases a b e
        (λ t. not_both (sym (a_is ∙ ap membership_out_of_range x_is) ∙ t) (or_left (membership_out_of_range m.membership) _ good.rules))
        (λ t.
        not_both (sym (b_is ∙ ap leg_breaks_rule l_is) ∙ t)
        (or_left (leg_breaks_rule m.leg) _ (or_right (membership_out_of_range m.membership) _ good.rules))))
        (λ t.
        not_both (sym (u_is ∙ ap (λ (v : Membership). unlike v.account held) x_is) ∙ t)
        (or_left (unlike m.membership.account held) _ good.sums)))

    pub member_short : {cells : ℕ} {named before after : List ℕ} → l.receiver.reserved < held.reserved → Passes cells (MemberGood held m) named before true after
    unfolding differs
    member_short less =
        passes_broken
        (λ good.
        omega (
          arith,
          ap (λ (v : Leg). v.receiver.reserved) l_is,
          reserved_right (or_right (unlike m.membership.account held) _ good.sums),
        ))

    pub member_queue : {cells : ℕ} {named before after : List ℕ} {r : Bool} → ((a || b) || u) ≡ false → held.reserved ≤ l.receiver.reserved
        → Passes cells (QueueGood (l.receiver.reserved - held.reserved) m.queue) named before r after → Passes cells (MemberGood held m) named before r after
    unfolding member_breaks_rule differs
    member_queue fine enough passes =
        passes_same
        (λ queue.
        record {
          rules =
              no_either (membership_out_of_range m.membership) _ (sym (a_is ∙ ap membership_out_of_range x_is) ∙ or_left a b (or_left (a || b) u fine))
              (no_either (leg_breaks_rule m.leg) _ (sym (b_is ∙ ap leg_breaks_rule l_is) ∙ or_right a b (or_left (a || b) u fine)) queue.rules);
          sums =
              no_either (unlike m.membership.account held) _
              (sym (u_is ∙ ap (λ (v : Membership). unlike v.account held) x_is) ∙ or_right (a || b) u fine)
              (ap not (eq-eqb m.leg.receiver.reserved (held.reserved + queued_count m.queue) (omega (arith, reads, queue.sum))));
        })
        (λ good.
        record {
          rules = or_right (leg_breaks_rule m.leg) _ (or_right (membership_out_of_range m.membership) _ good.rules);
          sum = omega (arith, reads, reserved_right (or_right (unlike m.membership.account held) _ good.sums));
        })
        passes
      where
        reads : l.receiver.reserved ≡ m.leg.receiver.reserved
        reads = ap (λ (v : Leg). v.receiver.reserved) l_is

-- ---- a held packet

module _ (cells : ℕ) (ms : List Member) (lowest : ℕ) (p : Packet) (before : List ℕ) (b : Bool) (b_is : b ≡ packet_breaks_rule p) where
  -- the next two are cited by no proof: they stand for who reads `PlacesPacket`
  pub place_broken : (b || ltb p.content.sequence lowest) ≡ true → PlacesPacket cells ms lowest p before None before
  place_broken found =
      record {
        passes =
            passes_broken
            (λ good.
            or_cases b (ltb p.content.sequence lowest) found (λ t. not_both (sym b_is ∙ t) good.rules)
            (λ t. omega (arith, ltb-true p.content.sequence lowest t, good.above)));
        place = λ e. not_both refl e;
      }

  module _ (m : Bool) (after : List ℕ) (marks : Marks cells (p.content.cell ∷ []) before m after) where
    pub place_refused : not m ≡ true → PlacesPacket cells ms lowest p before None after
    place_refused refused = record { passes = passes_refused m marks refused; place = λ e. not_both refl e }

-- the packet breaks no rule, and its cell is marked: it has the place of its account, if there is one
pub place_found : (cells : ℕ) (t : List (List ℕ)) (count : ℕ) → count ≤ max_members → one_twice (each id_of (members_upto count t)) ≡ false → (lowest : ℕ) (p : Packet)
    (before : List ℕ) (b : Bool) → b ≡ packet_breaks_rule p → (b || ltb p.content.sequence lowest) ≡ false → (m : Bool) (after : List ℕ)
    → Marks cells (p.content.cell ∷ []) before m after → not m ≡ false → (r : Option ℕ) → r ≡ account_place (members_upto count t) p
    → PlacesPacket cells (members_upto count t) lowest p before r after
place_found cells t count few once lowest p before b b_is fine m after marks taken None is =
    record {
      passes = passes_broken (λ good. not_both (placed_nowhere (members_upto count t) p (sym is)) good.reserved);
      place = λ e. not_both refl e;
    }
place_found cells t count few once lowest p before b b_is fine m after marks taken (Some i) is =
    record {
      passes =
          passes_marked m marks
          record {
            rules = sym b_is ∙ or_left b (ltb p.content.sequence lowest) fine;
            above = omega (arith, ltb-false p.content.sequence lowest (or_right b (ltb p.content.sequence lowest) fine));
            reserved = placed_somewhere t count few once p i is;
          }
          taken;
      place = λ e. is;
    }

-- a packet that has a place is good, and the place is that of its account
module _ {cells : ℕ} {ms : List Member} {lowest : ℕ} {p : Packet} {before : List ℕ} {r : Option ℕ} {after : List ℕ}
    (places : PlacesPacket cells ms lowest p before r after) {place : ℕ} (is : r ≡ Some place) where
  pub placed_is : r ≡ account_place ms p
  placed_is = places.place (ap is_nothing is)

  pub placed_rules : packet_breaks_rule p ≡ false
  placed_rules = (places.passes.clean (ap is_nothing is)).rules

  pub placed_low : p.content.sequence ≤ largest_sequence
  unfolding packet_breaks_rule
  placed_low = ltb-false largest_sequence p.content.sequence (or_left (is_too_large p.content.sequence) _ placed_rules)

-- ---- held packets, one behind the other

-- what the sequence at a place has to reach: one more than the one before it
unfoldable pub lowest_at : (ℕ → Packet) → ℕ → ℕ
lowest_at f zero = 0
lowest_at f (suc i) = sequence_of (f i) + 1

pub lowest_start : (f : ℕ → Packet) → 0 ≡ lowest_at f 0
unfolding lowest_at
lowest_start f = refl

pub lowest_on : (f : ℕ → Packet) (at : ℕ) (p : Packet) → p ≡ f at → p.content.sequence + 1 ≡ lowest_at f (at + 1)
unfolding lowest_at
lowest_on f at p read = ap (λ (x : Packet). sequence_of x + 1) read ∙ ap (lowest_at f) (sym (add-one at))

ascends_of : (n : ℕ) (f : ℕ → Packet) → ((i : ℕ) → i < n → lowest_at f i ≤ sequence_of (f i)) → ascends (tab n f) ≡ true
unfolding ascends tab lowest_at
ascends_of zero f up = refl
ascends_of (suc zero) f up = refl
ascends_of (suc (suc n)) f up =
    cc (
      lt-ltb (sequence_of (f 0)) (sequence_of (f 1)) (omega (arith, up 1 (omega arith))),
      ascends_of (suc n) (λ i. f (suc i)) (λ i below. later i below),
    )
  where
    later : (i : ℕ) → i < suc n → lowest_at (λ k. f (suc k)) i ≤ sequence_of (f (suc i))
    later zero below = omega arith
    later (suc i) below = up (suc (suc i)) (omega arith)

lowest_of : (n : ℕ) (f : ℕ → Packet) → ascends (tab n f) ≡ true → (i : ℕ) → i < n → lowest_at f i ≤ sequence_of (f i)
unfolding lowest_at
lowest_of n f up zero below = omega arith
lowest_of n f up (suc i) below = omega (arith, ascends_up n f up i (suc i) (omega arith) below)

-- ---- the held packets, and then the members

abbrev pub packet_good : List (List ℕ) → ℕ → List ℕ → ℕ → Type 0
packet_good t count pending i = PacketGood (members_upto count t) (lowest_at (packet_at pending) i) (packet_at pending i)

abbrev pub packet_names : List ℕ → ℕ → List ℕ
packet_names pending i = (packet_at pending i).content.cell ∷ []

abbrev pub member_good : List (List ℕ) → List Account → ℕ → Type 0
member_good t accounts i = MemberGood (account_at accounts i) (member_in t i)

abbrev pub member_names : List (List ℕ) → ℕ → List ℕ
member_names t i = queue_cells (member_in t i)

pub member_step : {cells : ℕ} {here after : List ℕ} {r : Bool} {m : Member} (t : List (List ℕ)) (accounts : List Account) (i : ℕ) → m ≡ member_in t i
    → Passes cells (MemberGood (account_at accounts i) m) (queue_cells m) here r after
    → Passes cells (member_good t accounts i) (member_names t i) here r after
member_step {cells} {here} {after} {r} t accounts i read passes =
    subst (λ (m : Member). Passes cells (MemberGood (account_at accounts i) m) (queue_cells m) here r after) read passes

module _ (t : List (List ℕ)) (count : ℕ) (pending : List ℕ) (n : ℕ) where
  pub packet_step : {cells lowest : ℕ} (at : ℕ) {p : Packet} {here after : List ℕ} {r : Option ℕ} → p ≡ packet_at pending at → lowest ≡ lowest_at (packet_at pending) at
      → PlacesPacket cells (members_upto count t) lowest p here r after
      → Passes cells (packet_good t count pending at) (packet_names pending at) here (is_nothing r) after
  packet_step {cells} {lowest} at {p} {here} {after} {r} read low places =
      subst (λ (k : ℕ). Passes cells (PacketGood (members_upto count t) k (packet_at pending at)) (packet_names pending at) here (is_nothing r) after) low
      (subst (λ (x : Packet). Passes cells (PacketGood (members_upto count t) lowest x) (x.content.cell ∷ []) here (is_nothing r) after) read places.passes)

  module _ (own : Account) where
    abbrev rows_good : Type 0
    rows_good = RowsGood (members_upto count t) (packets n pending) own

    abbrev row_cells : List ℕ
    row_cells = pending_cells (packets n pending) ++ queued_cells (members_upto count t)

    rows_packets : rows_good → (i : ℕ) → i < n → packet_good t count pending i
    unfolding accounts_wrong
    rows_packets good i below =
        record {
          rules = none_there packet_breaks_rule n (packet_at pending) good.packets i below;
          above = lowest_of n (packet_at pending) good.order i below;
          reserved =
              none_there (is_unreserved (members_upto count t)) n (packet_at pending)
              (or_left (any (is_unreserved (members_upto count t)) (packets n pending)) _
              (or_right (any (member_sum_wrong (packets n pending)) (members_upto count t)) _ good.sums)) i below;
        }

    module _ {cells : ℕ} {before : List ℕ} {at : ℕ} {here : List ℕ}
        (sofar : PassedTo cells (packet_good t count pending) (packet_names pending) n before at here) where
      pub rows_packet_stopped : {after : List ℕ} {r : Option ℕ} → at < n
          → Passes cells (packet_good t count pending at) (packet_names pending at) here (is_nothing r) after
          → r ≡ None → Passes cells rows_good row_cells before true after
      rows_packet_stopped more step nothing =
          first_stops (passing_stopped sofar more step (pending_are n pending) (ap is_nothing nothing)) rows_packets (queued_cells (members_upto count t))

      -- every packet was passed and added up
      module _ (accounts : List Account) (adding : Adding t count pending at accounts) (through : n ≤ at) where
        same : at ≡ n
        same = omega (arith, sofar.within)

        whole : Adding t count pending n accounts
        whole = subst (λ (k : ℕ). Adding t count pending k accounts) same adding

        passed : Passes cells ((i : ℕ) → i < n → packet_good t count pending i) (pending_cells (packets n pending)) before false here
        passed = passing_done sofar (pending_are n pending) through

        module _ (other : Bool) (other_is : other ≡ unlike own (account_at accounts own_place)) where
          pub rows_own_wrong : {after : List ℕ} → other ≡ true → Passes cells rows_good row_cells before true after
          rows_own_wrong e =
              passes_broken
              (λ good.
              not_both (wrong_is t count pending n own accounts whole ∙ or_yes_left _ _ (sym other_is ∙ e)) good.sums)

          module _ (alike : other ≡ false) where
            members_good : rows_good → (i : ℕ) → i < count → member_good t accounts i
            unfolding accounts_differ
            members_good good i below =
                record {
                  rules = none_there member_breaks_rule count (member_in t) good.members i below;
                  sums =
                      none_there (member_differs t accounts) count index_of
                      (or_right (unlike own (account_at accounts own_place)) _ (sym (wrong_is t count pending n own accounts whole) ∙ good.sums)) i below;
                }

            all_good : ((i : ℕ) → i < count → member_good t accounts i) → rows_good
            unfolding accounts_differ
            all_good goods =
                record {
                  members = any_nowhere member_breaks_rule count (member_in t) (λ i below. (goods i below).rules);
                  packets = any_nowhere packet_breaks_rule n (packet_at pending) (λ i below. (passed.clean refl i below).rules);
                  order = ascends_of n (packet_at pending) (λ i below. (passed.clean refl i below).above);
                  sums =
                      wrong_is t count pending n own accounts whole
                      ∙ no_either (unlike own (account_at accounts own_place)) _ (sym other_is ∙ alike)
                      (any_nowhere (member_differs t accounts) count index_of (λ i below. (goods i below).sums));
                }

            module _ {index : ℕ} {now : List ℕ} (members : PassedTo cells (member_good t accounts) (member_names t) count here index now) where
              pub rows_member_stopped : {after : List ℕ} {r : Bool} → index < count
                  → Passes cells (member_good t accounts index) (member_names t index) now r after → r ≡ true
                  → Passes cells rows_good row_cells before true after
              rows_member_stopped more step e =
                  passes_then (passed.marks refl) (passing_stopped members more step (queues_are count t) e) all_good members_good

              pub rows_passed : count ≤ index → Passes cells rows_good row_cells before false now
              rows_passed all = passes_then (passed.marks refl) (passing_done members (queues_are count t) all) all_good members_good

-- ---- the ids first; cited by no proof, these laws stand for who reads `TablesGood`

module _ {cells : ℕ} {ms : List Member} {ps : List Packet} {own : Account} {named before after : List ℕ} (twice : Bool)
    (twice_is : twice ≡ one_twice (each id_of ms)) where
  pub tables_id_twice : twice ≡ true → Passes cells (TablesGood ms ps own) named before true after
  tables_id_twice e = passes_broken (λ good. not_both (sym twice_is ∙ e) good.ids)

  pub tables_rows : {r : Bool} → twice ≡ false → Passes cells (RowsGood ms ps own) named before r after → Passes cells (TablesGood ms ps own) named before r after
  tables_rows e = passes_same (λ rows. record { ids = sym twice_is ∙ e; rows = rows }) (λ good. good.rows)

-- ---- the history

abbrev pub entry_good : HistoryRing → Arrays → ℕ → Type 0
entry_good ring a i = entry_breaks_rule (entry_at ring a i) ≡ false

abbrev pub entry_names : HistoryRing → Arrays → ℕ → List ℕ
entry_names ring a i = (entry_at ring a i).cell ∷ []

module _ (ring : HistoryRing) (a : Arrays) where
  -- the entry at the place was read and tested
  module _ (cells at : ℕ) (here : List ℕ) (e : Entry) (read : e ≡ entry_at ring a at) (b : Bool) (tested : b ≡ entry_breaks_rule e) where
    pub entry_broken : b ≡ true → Passes cells (entry_good ring a at) (entry_names ring a at) here true here
    entry_broken is = passes_broken (λ fine. not_both (sym tested ∙ is) (ap entry_breaks_rule read ∙ fine))

    module _ (m : Bool) (after : List ℕ) (marks : Marks cells (e.cell ∷ []) here m after) where
      entry_marks : Marks cells (entry_names ring a at) here m after
      entry_marks = marks_as (ap (λ (x : Entry). x.cell ∷ []) read) marks

      pub entry_refused : not m ≡ true → Passes cells (entry_good ring a at) (entry_names ring a at) here true after
      entry_refused refused = passes_refused m entry_marks refused

      pub entry_passed : b ≡ false → not m ≡ false → Passes cells (entry_good ring a at) (entry_names ring a at) here false after
      entry_passed fine taken = passes_marked m entry_marks (ap entry_breaks_rule (sym read) ∙ sym tested ∙ fine) taken

  abbrev history_good : Type 0
  history_good = history_breaks_rule (entries_of ring a) ≡ false

  entries_good : history_good → (i : ℕ) → i < ring.length → entry_good ring a i
  unfolding history_breaks_rule
  entries_good good i below =
      none_there entry_breaks_rule ring.length (entry_at ring a) (or_right (ltb max_history (length (entries_of ring a))) _ good) i below

  pub history_long : {cells : ℕ} {before after : List ℕ} → max_history < ring.length
      → Passes cells history_good (history_cells (entries_of ring a)) before true after
  history_long long = passes_broken (λ good. not_both (sym (history_too_long ring a long)) good)

  module _ {cells : ℕ} {before : List ℕ} {at : ℕ} {here : List ℕ} (sofar : PassedTo cells (entry_good ring a) (entry_names ring a) ring.length before at here)
    where
      pub history_stopped : {after : List ℕ} → at < ring.length → Passes cells (entry_good ring a at) (entry_names ring a at) here true after
          → Passes cells history_good (history_cells (entries_of ring a)) before true after
      history_stopped more step =
          let stopped = passing_stopped sofar more step (entries_are ring a) refl in
          record {
            clean = λ e. not_both refl e;
            marks = λ e. not_both refl e;
            broken = λ e good fits. stopped.broken refl (entries_good good) fits;
          }

      pub history_passed : ring.length ≤ max_history → ring.length ≤ at → Passes cells history_good (history_cells (entries_of ring a)) before false here
      history_passed short through =
          passes_same
          (λ goods. sym (history_walked ring a short (sym (any_nowhere entry_breaks_rule ring.length (entry_at ring a) goods))))
          entries_good (passing_done sofar (entries_are ring a) through)
