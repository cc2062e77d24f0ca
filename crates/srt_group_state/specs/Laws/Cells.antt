-- What each part of the pass over the named cells does to the words of the set, and what the whole of it says of the state that is shown.
use Rattle.std.specs.Prelude.{◌≡◌, refl, Bool, true, false, not, ◌||◌, List, [], ◌∷◌, ◌++◌, ℕ, zero, suc, ◌+◌, ◌%◌, ◌≤◌, ◌<◌, leb, length, Option, Some}
use Rattle.std.proofs.Common.{sym, ap, ap₂, subst, ◌∙◌, append_assoc, append-nil, arith}
use Rattle.srt_group_model.specs.Tools.{if_true◌then◌else◌, if_some◌give◌otherwise◌, any, such_that, at_place, each}
use Rattle.srt_group_model.specs.Laws.Reason.{by_test, not_both, or_left, or_right}
use Rattle.srt_group_model.specs.State.{Member}
use Rattle.srt_group_model.specs.Cells.{is_data, queue_cells, queued_cells}
use Rattle.srt_group_model.specs.Validity.{max_queued, one_twice}
use Rattle.srt_group_model.specs.Sound.{occurs, pending_cells, history_cells}
use Rattle.srt_group_model.specs.Laws.CellsKept.{occurs_append, Apart, apart_of_rules, once_of_apart, inside_of_apart}
use Rattle.srt_protocol.specs.Cells.{max_cells}
use Rattle.srt_group_model.specs.declared.Entry.{Entry}
use Rattle.srt_group_model.specs.declared.Event.{Event}
use Rattle.srt_group_model.specs.declared.Packet.{Packet}
use Rattle.word_rows.specs.Tab.{tab}
use Rattle.word_rows.specs.Laws.Tab.{tab_length}
use Rattle.cell_set.specs.Sets.{ShowsCells}
use Rattle.cell_set.specs.Marks.{Marking, Marks}
use Rattle.srt_connection_queue.specs.declared.rows.Ring.{Ring}
use Rattle.srt_connection_queue.specs.Laws.Tab.{tab_place}
use Rattle.srt_connection_queue.specs.Rows.{receiver_part, first_event_part, part, ring_of, event_of, event_in, queue_of, member_parts, member_of}
use Rattle.srt_connection_members.specs.Members.{member_in}
use Rattle.srt_group_rules.specs.Ids.{members_upto}
use Rattle.srt_group_tables.specs.Packets.{packet_at, packets}
use Rattle.srt_group_tables.specs.Ring.{Arrays, entry_at, entries_of}
use Rattle.srt_group_tables.specs.declared.history.HistoryRing.{HistoryRing}
use Rattle.srt_group_state.specs.Cells.{event_cells}

-- ---- what a test of an answer tells

pub answered_true : (r : Bool) → not r ≡ false → r ≡ true
answered_true true h = refl
answered_true false h = not_both refl h

pub answered_false : (r : Bool) → not r ≡ true → r ≡ false
answered_false true h = not_both h refl
answered_false false h = refl

-- ---- no list

pub nothing_marked : (cells : ℕ) (before : List ℕ) → Marking cells before → Marks cells [] before true before
unfolding occurs
nothing_marked cells before marking =
    record { marked = λ e n. omega arith; kept = λ e. marking; broken = λ e h. not_both refl e }

-- ---- the lists of the first places, joined

unfoldable pub joined : ℕ → (ℕ → List ℕ) → List ℕ
joined zero names = []
joined (suc n) names = names 0 ++ joined n (λ i. names (suc i))

pub joined_next : (n : ℕ) (names : ℕ → List ℕ) → joined (suc n) names ≡ joined n names ++ names n
unfolding joined
joined_next zero names = append-nil (names 0)
joined_next (suc n) names =
    ap (λ (l : List ℕ). names 0 ++ l) (joined_next n (λ i. names (suc i)))
    ∙ sym (append_assoc (names 0) (joined n (λ i. names (suc i))) (names (suc n)))

pub joined_more : (i n : ℕ) (names : ℕ → List ℕ) (c : ℕ) → i ≤ n → occurs c (joined i names) ≤ occurs c (joined n names)
unfolding joined occurs
joined_more zero n names c h = omega arith
joined_more (suc i) zero names c h = absurd (omega arith)
joined_more (suc i) (suc n) names c h =
    omega (
      arith,
      joined_more i n (λ k. names (suc k)) c (omega arith),
      occurs_append c (names 0) (joined i (λ k. names (suc k))),
      occurs_append c (names 0) (joined n (λ k. names (suc k))),
    )

-- ---- the model's lists are such lists joined

-- the cells of the event at a place of a queue
abbrev pub queue_names : List Event → ℕ → List ℕ
queue_names q i = if_some at_place i q give event_cells otherwise []

queue_joined : (q : List Event) → joined (length q) (queue_names q) ≡ each (λ (e : Event). e.content.cell) (such_that is_data q)
unfolding joined at_place if_true◌then◌else◌ if_some◌give◌otherwise◌ such_that each event_cells
queue_joined [] = refl
queue_joined (e ∷ q) = by_test (is_data e) (λ t. rw (t, queue_joined q)) (λ t. rw (t, queue_joined q))

members_joined : (n : ℕ) (member : ℕ → Member) → joined n (λ i. queue_cells (member i)) ≡ queued_cells (tab n member)
unfolding joined tab queued_cells
members_joined zero member = refl
members_joined (suc n) member = ap (λ (l : List ℕ). queue_cells (member 0) ++ l) (members_joined n (λ i. member (suc i)))

rows_joined : {A : Type 0} (n : ℕ) (cell : A → ℕ) (row : ℕ → A) → joined n (λ i. cell (row i) ∷ []) ≡ each cell (tab n row)
unfolding joined tab each
rows_joined zero cell row = refl
rows_joined (suc n) cell row = ap (λ (l : List ℕ). cell (row 0) ∷ l) (rows_joined n cell (λ i. row (suc i)))

pub queue_is : (m : Member) → joined (length m.queue) (queue_names m.queue) ≡ queue_cells m
unfolding queue_cells
queue_is m = queue_joined m.queue

pub queues_are : (n : ℕ) (rows : List (List ℕ)) → joined n (λ i. queue_cells (member_in rows i)) ≡ queued_cells (members_upto n rows)
queues_are n rows = members_joined n (member_in rows)

pub events_are : (n : ℕ) (event : ℕ → Event) → joined n (λ i. event_cells (event i)) ≡ each (λ (e : Event). e.content.cell) (such_that is_data (tab n event))
unfolding joined tab if_true◌then◌else◌ such_that each event_cells
events_are zero event = refl
events_are (suc n) event =
    by_test (is_data (event 0)) (λ t. rw (t, events_are n (λ i. event (suc i)))) (λ t. rw (t, events_are n (λ i. event (suc i))))

pub entries_are : (r : HistoryRing) (a : Arrays) → joined r.length (λ i. (entry_at r a i).cell ∷ []) ≡ history_cells (entries_of r a)
entries_are r a = rows_joined r.length (λ (e : Entry). e.cell) (entry_at r a)

pub pending_are : (n : ℕ) (pending : List ℕ) → joined n (λ i. (packet_at pending i).content.cell ∷ []) ≡ pending_cells (packets n pending)
pending_are n pending = rows_joined n (λ (p : Packet). p.content.cell) (packet_at pending)

-- ---- what is read at a place names what stands there

pub event_names : (q : List Event) (index : ℕ) (e : Event) → at_place index q ≡ Some e → event_cells e ≡ queue_names q index
unfolding if_some◌give◌otherwise◌
event_names q index e there = ap (λ (o : Option Event). if_some o give event_cells otherwise []) (sym there)

pub marks_as : {cells : ℕ} {l m before : List ℕ} {r : Bool} {after : List ℕ} → l ≡ m → Marks cells l before r after → Marks cells m before r after
marks_as {cells} {l} {m} {before} {r} {after} same marks = subst (λ (k : List ℕ). Marks cells k before r after) same marks

module _ (cells : ℕ) (before : List ℕ) (e : Event) where
  no_cell : is_data e ≡ false → [] ≡ event_cells e
  unfolding event_cells if_true◌then◌else◌
  no_cell t = rw t

  its_cell : is_data e ≡ true → e.content.cell ∷ [] ≡ event_cells e
  unfolding event_cells if_true◌then◌else◌
  its_cell t = rw t

  pub no_data_passed : {tested : Bool} → Marking cells before → tested ≡ is_data e → tested ≡ false → Marks cells (event_cells e) before true before
  no_data_passed marking is other = marks_as (no_cell (sym is ∙ other)) (nothing_marked cells before marking)

  pub data_marked : {tested : Bool} (r : Bool) (after : List ℕ) → tested ≡ is_data e → tested ≡ true → Marks cells (e.content.cell ∷ []) before r after
      → Marks cells (event_cells e) before r after
  data_marked r after is it marks = marks_as (its_cell (sym is ∙ it)) marks

-- the event that is read stands at that place of the queue
pub event_read : (row : List ℕ) (ring : Ring) (index : ℕ) (e : Event) → ring ≡ ring_of (part row receiver_part) → index < length (member_of row).queue
    → e ≡ event_in row ((ring.start + index % max_queued) % max_queued) → at_place index (member_of row).queue ≡ Some e
unfolding member_of member_parts queue_of event_in
event_read row ring index e is below read =
    let event : ℕ → Event = λ j. event_of (part row (first_event_part + ((ring_of (part row receiver_part)).start + j) % max_queued)) in
    let count = (ring_of (part row receiver_part)).length in
    tab_place count event index (omega (arith, tab_length count event))
    ∙ ap (λ (x : Ring). Some (event_of (part row (first_event_part + (x.start + index) % max_queued)))) (sym is)
    ∙ ap (λ (n : ℕ). Some (event_of (part row n))) (omega arith) ∙ ap (λ (x : Event). Some x) (sym read)

-- ---- the whole pass

pub fresh_marking : (cells : ℕ) (words : List ℕ) → cells ≤ max_cells → ShowsCells words [] → Marking cells words
unfolding occurs
fresh_marking cells words store fresh = record { store = store; long = fresh.long; within = λ n. omega (arith, fresh.bits n) }

-- a pass that began with no cell marked answers the two rules of the cells
pub marks_answer : (cells : ℕ) (named before : List ℕ) (r : Bool) (after : List ℕ) → ShowsCells before [] → Marks cells named before r after
    → not r ≡ (one_twice named || any (leb cells) named)
unfolding occurs
marks_answer cells named before true after fresh marks =
    sym (ap₂ ◌||◌ (once_of_apart cells named apart) (inside_of_apart cells named apart))
  where
    apart : Apart cells named
    apart n = omega (arith, marks.marked refl n, (marks.kept refl).within n)
marks_answer cells named before false after fresh marks =
    by_test (one_twice named || any (leb cells) named) sym
    (λ t.
    let rules = apart_of_rules cells named (or_left (one_twice named) _ t) (or_right (one_twice named) _ t) in
    absurd (marks.broken refl (λ n. omega (arith, rules n, fresh.bits n))))
