-- The marks of one call. They are quiet (payloads put, the base set, packets collected); or the call gave a packet, and its mark
-- stands over quiet ones; or it stands over a skip, which passed the give-up test for the packet nearest when it was tested,
-- went to the packet nearest after collecting, and whose call ends with empty leg queues and no event waiting.
use Rattle.std.specs.Prelude.{◌≡◌, refl, Bool, true, false, not, ◌||◌, ◌⊎◌, List, [], ◌∷◌, ℕ, zero, suc, ◌+◌, min, length, drop, None, Option, Some}
use Rattle.std.proofs.Common.{sym, ap, ◌∙◌, subst, inl, inr, arith}
use Rattle.srt_protocol.specs.Sequence.{sequence_distance, sequence_further}
use Rattle.srt_group_model.specs.Tools.{is_set, bit, flagged, is_empty, place_of, at_place, All}
use Rattle.srt_group_model.specs.State.{Member, State, next_receive_sequence, with_continuation}
use Rattle.srt_group_model.specs.Core.{continued}
use Rattle.srt_group_model.specs.Members.{found}
use Rattle.srt_group_model.specs.Nearest.{sequence_of, held_at, is_held, nearest}
use Rattle.srt_group_model.specs.Run.{Mark, put, base_set, collected, gap_skipped, delivered, Run, start, set_base, refresh_pending_states}
use Rattle.srt_group_model.specs.Collecting.{in_turn, front, Visited, take_front, collect_one_event, collect_until_held, Emptied, collect_until_empty}
use Rattle.srt_group_model.specs.Delivery.{gap_given_up, base_stays, deliver_packet, pass_run, Polled, nothing, event, packet, Poll, deliver, skip_to, give_waiting, skip_after, max_visits, skip_given_up_gap}
use Rattle.srt_group_model.specs.Polls.{delivery_budget, deliver_next, poll_event, DataPoll, pass_events, poll_until_data, poll_data_bounded}
use Rattle.srt_group_model.specs.Laws.Refusals.{guard_elim}
use Rattle.srt_group_model.specs.Guards.{polled, Step}
use Rattle.srt_group_model.specs.Calls.{event_poll_body, poll_event_call, data_poll_body, poll_data_call}
use Rattle.srt_group_model.specs.declared.Event.{Event}
use Rattle.srt_group_model.specs.declared.Packet.{Packet}
use Rattle.srt_group_model.specs.Laws.Reason.{if_elim, if_some_elim, not_both, or_left, or_right, none_some, some_inj, by_test, all_map}
use Rattle.srt_group_traces.specs.Statement.{When, run_at_test, after_polls, AtTest, when_of, Asked, do_call, time_of, is_poll}
use Rattle.srt_group_traces.specs.Laws.Cases.{Each, each_at}
use Rattle.srt_group_traces.specs.Laws.Sides.{Side, sides, deliver_packet_leaves_sides}
use Rattle.srt_group_traces.specs.Laws.Held.{held_at_sequence, nearest_is_held}
use Rattle.srt_group_model.specs.Lent.{Call, delivered_by, step_of, with_bytes, perform}
use Rattle.srt_group_model.specs.Laws.Released.{deliver_released}
use Rattle.srt_group_model.specs.Laws.Moves.{until_empty_not_held}
use Rattle.srt_group_model.specs.Laws.Waits.{waits, none_waits, refresh_waits}
use Rattle.srt_group_model.specs.Laws.CallLaw.{RefreshLaw, CollectLaw, calling, Polls, polls_events, polls_packets}
use Rattle.srt_group_model.specs.Laws.EveryCall.{collects_until_held, collects_until_empty, refreshes_pending, refreshes}
use Rattle.srt_group_traces.specs.Laws.Calls.{others_give_none, polls_of, polls_is_poll}
use Rattle.srt_group_traces.specs.Laws.CallMarks.{Only, only_refreshes, only_collects, Putting, step_marks}

-- ---- what the marks of a call can be

abbrev pub Quiet : List Mark → Type 0
Quiet log = All (Only (Unit {0}) ⊥) log

-- every leg's queue is empty
abbrev pub EmptyQueues : State → Type 0
EmptyQueues s = All (λ (v : Side). v.queue ≡ []) (sides s.members)

-- one of the event polls of this call is so far
abbrev UnderTest : When → Run → Type 0
UnderTest when r = (polls : ℕ) × (r ≡ run_at_test (after_polls when.time polls (start when.from)))

-- ---- what the marks of a call can be, if it gave a packet

-- The marks of a call are a skip over quiet ones. `tested` is the state of which the give-up test was made, once, before
-- collecting: its base was not held, no continuation was asked for, and the test was true for the packet nearest then.
-- `gathered` is the state after collecting: the base is still not held, and p is the packet now nearest, to which the base goes.
pub record Skip (when : When) (p : Packet) (s : State) (log : List Mark) : Type 0 where
  pub tested : State
  pub gathered : State
  pub base : ℕ
  pub distance : ℕ
  pub before : List Mark
  pub is : log ≡ gap_skipped tested when.time distance ∷ before
  pub quiet : Quiet before
  pub at_test : AtTest when base tested gathered
  pub based : next_receive_sequence tested.receive ≡ Some base
  pub missing : is_held base tested.receive.pending ≡ false
  pub complete : is_set tested.visit.continuation ≡ false
  pub given_up : gap_given_up when.time tested ≡ true
  pub still_missing : is_held base gathered.receive.pending ≡ false
  pub nearest_now : nearest gathered.receive.pending ≡ Some p
  pub far : distance ≡ sequence_distance base (sequence_of p)
  pub empty : EmptyQueues s
  pub none_waiting : s.waiting ≡ []

-- the packet was delivered last of all, and the base stands past its run
pub record Given (when : When) (p : Packet) (s : State) (log : List Mark) : Type 0 where
  pub before : List Mark
  pub is : log ≡ delivered p ∷ before
  pub how : Quiet before ⊎ Skip when p s before
  pub past : next_receive_sequence s.receive ≡ Some (sequence_further (sequence_of p) p.content.count)

-- by the packet that it gave, if it gave one
abbrev pub Shape : When → Option Packet → State → List Mark → Type 0
Shape when None s log = Quiet log
Shape when (Some p) s log = Given when p s log

-- collecting and the refresh are quiet
abbrev refresh_quiet : RefreshLaw (λ hand s log. Quiet log)
refresh_quiet = only_refreshes (Unit {0}) ⊥

abbrev collect_quiet : CollectLaw (λ hand s log. Quiet log)
collect_quiet = only_collects (Unit {0}) ⊥

set_base_quiet : (base : Option ℕ) (r : Run) → Quiet r.log → Quiet (set_base base r).log
unfolding set_base
set_base_quiet base r h =
    if_some_elim (λ (q : Run). Quiet q.log) (next_receive_sequence r.state.receive) _ _
    (λ b e. h) (λ e. if_some_elim (λ (q : Run). Quiet q.log) base _ _ (λ b e. (tt, h)) (λ e. h))

-- ---- where collecting found nothing and asks for no continuation, every queue is empty

abbrev Empties : List Member → Type 0
Empties ms = All (λ (v : Side). v.queue ≡ []) (sides ms)

is_empty_nil : {A : Type 0} (q : List A) → not (is_empty q) ≡ false → q ≡ []
unfolding is_empty
is_empty_nil [] e = refl
is_empty_nil (x ∷ q) e = not_both {t = true} refl e

no_place_empty : (ms : List Member) → place_of (λ m. not (is_empty m.queue)) ms ≡ None → Empties ms
unfolding place_of sides
no_place_empty [] e = tt
no_place_empty (m ∷ ms) e =
    if_elim (λ (o : Option ℕ). o ≡ None → Empties (m ∷ ms)) (not (is_empty m.queue)) _ _ (λ t f. none_some (sym f))
    (λ t.
    if_some_elim (λ (o : Option ℕ). o ≡ None → Empties (m ∷ ms)) (place_of (λ m. not (is_empty m.queue)) ms) _ _
    (λ i f g. none_some (sym g)) (λ f g. (is_empty_nil m.queue t, no_place_empty ms f)))
    e

in_turn_none_empty : (round : ℕ) (ms : List Member) → in_turn round ms ≡ None → Empties ms
unfolding in_turn
in_turn_none_empty round ms =
    if_some_elim (λ (o : Option ℕ). o ≡ None → Empties ms) (place_of (λ m. not (is_empty m.queue)) (drop round ms)) _ _
    (λ i e f. none_some (sym f)) (λ e f. no_place_empty ms f)

-- the place in turn is that of a member with a queue that is not empty
abbrev HasFront : List Member → ℕ → Type 0
HasFront ms i = (m : Member) × (at_place i ms ≡ Some m) × (not (is_empty m.queue) ≡ true)

place_has_front : (ms : List Member) → Each (HasFront ms) (place_of (λ m. not (is_empty m.queue)) ms)
unfolding place_of at_place
place_has_front [] = tt
place_has_front (m ∷ ms) =
    if_elim (Each (HasFront (m ∷ ms))) (not (is_empty m.queue)) _ _ (λ t. (m, refl, t))
    (λ t.
    if_some_elim (Each (HasFront (m ∷ ms))) (place_of (λ m. not (is_empty m.queue)) ms) _ _
    (λ i e. each_at (HasFront ms) (place_of (λ m. not (is_empty m.queue)) ms) i e (place_has_front ms))
    (λ e. tt))

at_place_drop : (n i : ℕ) (ms : List Member) (m : Member) → at_place i (drop n ms) ≡ Some m → at_place (n + i) ms ≡ Some m
unfolding at_place
at_place_drop zero i ms m e = let same : 0 + i ≡ i = omega arith in rw same e
at_place_drop (suc n) i [] m e = e
at_place_drop (suc n) i (x ∷ ms) m e =
    let onward : suc n + i ≡ suc (n + i) = omega arith in
    ap (λ (j : ℕ). at_place j (x ∷ ms)) onward ∙ at_place_drop n i ms m e

in_turn_has_front : (round : ℕ) (ms : List Member) → Each (HasFront ms) (in_turn round ms)
unfolding in_turn
in_turn_has_front round ms =
    if_some_elim (Each (HasFront ms)) (place_of (λ m. not (is_empty m.queue)) (drop round ms)) _ _ (λ i e.
    let h : HasFront (drop round ms) i =
    each_at (HasFront (drop round ms)) (place_of (λ m. not (is_empty m.queue)) (drop round ms)) i e
    (place_has_front (drop round ms))
    in
    (h.0, at_place_drop round i ms h.0 h.1, h.2))
    (λ e. place_has_front ms)

-- of a visit that collected nothing and asks for no continuation
abbrev Finds : Visited → Type 0
Finds v = v.took ≡ false → not (is_set v.run.state.visit.continuation) ≡ true → EmptyQueues v.run.state

front_of_nonempty : (q : List Event) → not (is_empty q) ≡ true → front q ≡ None → ⊥
unfolding is_empty at_place
front_of_nonempty [] e f = not_both {t = true} refl (sym e)
front_of_nonempty (x ∷ q) e f = none_some (sym f)

take_front_finds : (i : ℕ) (m : Member) (r : Run) → not (is_empty m.queue) ≡ true → Finds (take_front i m r)
unfolding take_front bit
take_front_finds i m r t =
    if_some_elim Finds (front m.queue) _ _
    (λ e there. if_elim Finds _ _ _ (λ e f g. not_both {t = true} refl (sym g)) (λ e f g. not_both {t = true} refl f))
    (λ e. absurd (front_of_nonempty m.queue t e))

collect_one_event_finds : (r : Run) → Finds (collect_one_event r)
unfolding collect_one_event
collect_one_event_finds r =
    if_some_elim Finds (in_turn r.state.visit.round r.state.members) _ _
    (λ i e.
    let h : HasFront r.state.members i =
    each_at (HasFront r.state.members) (in_turn r.state.visit.round r.state.members) i e
    (in_turn_has_front r.state.visit.round r.state.members)
    in
    if_some_elim Finds (at_place i r.state.members) _ _
    (λ m there. take_front_finds i m r
    (subst (λ (m : Member). not (is_empty m.queue) ≡ true) (some_inj (sym h.1 ∙ there)) h.2))
    (λ e. none_some (sym e ∙ h.1)))
    (λ e f g. in_turn_none_empty r.state.visit.round r.state.members e)

pub collect_until_empty_empties : (visits sequence : ℕ) (r : Run) → (collect_until_empty visits sequence r).emptied ≡ true
    → EmptyQueues (collect_until_empty visits sequence r).run.state
unfolding collect_until_empty
collect_until_empty_empties zero sequence r = λ e. not_both {t = true} refl (sym e)
collect_until_empty_empties (suc visits) sequence r =
    if_elim (λ (v : Emptied). v.emptied ≡ true → EmptyQueues v.run.state) _ _ _ (λ e f. not_both {t = true} refl (sym f))
    (λ e.
    if_elim (λ (v : Emptied). v.emptied ≡ true → EmptyQueues v.run.state) (collect_one_event r).took _ _
    (λ e. collect_until_empty_empties visits sequence (collect_one_event r).run) (λ e f. collect_one_event_finds r e f))

-- ---- a delivery moves the base past the run

deliver_moves_base : (base : ℕ) (p : Packet) (s : State) → held_at base s.receive.pending ≡ Some p
    → next_receive_sequence (deliver_packet base p s).receive ≡ Some (sequence_further (sequence_of p) p.content.count)
unfolding deliver_packet pass_run flagged
deliver_moves_base base p s e =
    ap (λ (n : ℕ). Some (sequence_further n p.content.count))
    (sym (each_at (λ (q : Packet). sequence_of q ≡ base) (held_at base s.receive.pending) p e
    (held_at_sequence base s.receive.pending)))

-- ---- a poll

abbrev pub packet_of : Polled → Option Packet
packet_of nothing = None
packet_of (event w) = None
packet_of (packet p) = Some p

abbrev PollShape : When → Poll → Type 0
PollShape when q = Shape when (packet_of q.gave) q.run.state q.run.log

deliver_shape : (when : When) (base : ℕ) (r : Run) → Quiet r.log → PollShape when (deliver base r)
unfolding deliver
deliver_shape when base r h =
    if_some_elim (PollShape when) (held_at base r.state.receive.pending) _ _
    (λ p e. record { before = r.log; is = refl; how = inl h; past = deliver_moves_base base p r.state e }) (λ e. h)

deliver_after_skip : (when : When) (base : ℕ) (p : Packet) (r : Run) → held_at base r.state.receive.pending ≡ Some p
    → Skip when p (deliver_packet base p r.state) r.log → PollShape when (deliver base r)
unfolding deliver
deliver_after_skip when base p r found h =
    if_some_elim (PollShape when) (held_at base r.state.receive.pending) _ _
    (λ q e.
    record {
      before = r.log;
      is = refl;
      how = inr (subst (λ (x : Packet). Skip when x (deliver_packet base x r.state) r.log) (some_inj (sym found ∙ e)) h);
      past = deliver_moves_base base q r.state e;
    })
    (λ e. none_some (sym e ∙ found))

give_waiting_shape : (when : When) (r : Run) → Quiet r.log → PollShape when (give_waiting r)
unfolding give_waiting
give_waiting_shape when r h = if_some_elim (PollShape when) (at_place 0 r.state.waiting) _ _ (λ w e. h) (λ e. h)

skip_after_shape : (when : When) (tested : State) (base : ℕ) (c : Emptied) → AtTest when base tested c.run.state
    → next_receive_sequence tested.receive ≡ Some base
    → is_held base tested.receive.pending ≡ false → is_set tested.visit.continuation ≡ false
    → gap_given_up when.time tested ≡ true
    → (c.emptied ≡ true → EmptyQueues c.run.state) → (c.emptied ≡ true → is_held base c.run.state.receive.pending ≡ false)
    → Quiet c.run.log → PollShape when (skip_after when.time tested base c)
unfolding skip_after skip_to
skip_after_shape when tested base c at_test based missing complete given_up empty still_missing h =
    if_elim (PollShape when) _ _ _ (λ e. give_waiting_shape when c.run h)
    (λ none_waits.
    if_elim (PollShape when) c.emptied _ _
    (λ e.
    if_some_elim (PollShape when) (nearest c.run.state.receive.pending) _ _ (λ p near.
    deliver_after_skip when (sequence_of p) p _ (nearest_is_held c.run.state.receive.pending p near)
    record {
      tested = tested;
      gathered = c.run.state;
      base = base;
      distance = sequence_distance base (sequence_of p);
      before = c.run.log;
      is = refl;
      quiet = h;
      at_test = at_test;
      based = based;
      missing = missing;
      complete = complete;
      given_up = given_up;
      still_missing = still_missing e;
      nearest_now = near;
      far = refl;
      empty = subst (All (λ (v : Side). v.queue ≡ [])) (sym (deliver_packet_leaves_sides (sequence_of p) p _)) (empty e);
      none_waiting = (deliver_released (sequence_of p) p _).waiting ∙ is_empty_nil c.run.state.waiting none_waits;
    })
    (λ e. h))
    (λ e. deliver_shape when base c.run h))

-- the skip is tried only where the test was true
test_was_true : (held continued given_up : Bool) → (held || (continued || not given_up)) ≡ false → given_up ≡ true
test_was_true true b c e = not_both {t = true} refl e
test_was_true false true c e = not_both {t = true} refl e
test_was_true false false true e = refl
test_was_true false false false e = not_both {t = true} refl e

skip_given_up_gap_shape : (when : When) (base : ℕ) (r : Run) → UnderTest when r → waits r ≡ 0
    → next_receive_sequence r.state.receive ≡ Some base → Quiet r.log
    → PollShape when (skip_given_up_gap when.time base r)
unfolding skip_given_up_gap base_stays
skip_given_up_gap_shape when base r under none_waits based h =
    if_elim (PollShape when) _ _ _ (λ e. deliver_shape when base r h)
    (λ e.
    skip_after_shape when r.state base (collect_until_empty max_visits base r)
    record {
      polls = under.0;
      is = ap (λ (x : Run). x.state) under.1;
      gathers = ap (λ (x : Run). (collect_until_empty max_visits base x).run.state) under.1;
    }
    based
    (or_left (is_held base r.state.receive.pending) _ e)
    (or_left (is_set r.state.visit.continuation) _ (or_right (is_held base r.state.receive.pending) _ e))
    (test_was_true (is_held base r.state.receive.pending) (is_set r.state.visit.continuation)
    (gap_given_up when.time r.state) e)
    (collect_until_empty_empties max_visits base r) (until_empty_not_held max_visits base r)
    (collects_until_empty (λ hand s log. Quiet log) refresh_quiet collect_quiet None max_visits base r (omega (arith, none_waits)) h))

deliver_next_shape : (when : When) (r : Run) → UnderTest when r → waits r ≡ 0 → Quiet r.log
    → PollShape when (deliver_next when.time r)
unfolding deliver_next
deliver_next_shape when r under none_waits h =
    if_some_elim (PollShape when) (next_receive_sequence r.state.receive) _ _
    (λ base e. skip_given_up_gap_shape when base r under none_waits e h)
    (λ e.
    if_some_elim (PollShape when) (nearest r.state.receive.pending) _ _
    (λ p e. deliver_shape when (sequence_of p) (set_base (Some (sequence_of p)) r) (set_base_quiet (Some (sequence_of p)) r h))
    (λ e. h))

-- the run is that of this call after so many event polls
abbrev AfterPolls : When → ℕ → Run → Type 0
AfterPolls when polls r = r ≡ after_polls when.time polls (start when.from)

poll_event_shape_after : (when : When) (polls : ℕ) (r : Run) → AfterPolls when polls r → Quiet r.log
    → PollShape when (poll_event when.time r)
unfolding poll_event run_at_test
poll_event_shape_after when polls r here h =
    if_elim (PollShape when) _ _ _ (λ e. give_waiting_shape when _ gathered)
    (λ e.
    deliver_next_shape when _ (polls, ap run_at_test here) (refresh_waits _ ∙ none_waits _ e) (refreshes (λ hand s log. Quiet log) refresh_quiet None _ gathered))
  where
    gathered : Quiet
        (collect_until_held max_visits
        (refresh_pending_states record { state = with_continuation false r.state; log = r.log; budget = delivery_budget })).log
    gathered =
        collects_until_held (λ hand s log. Quiet log) refresh_quiet collect_quiet None max_visits _ (refreshes_pending (λ hand s log. Quiet log) refresh_quiet None _ h)

poll_event_shape : (when : When) → PollShape when (poll_event when.time (start when.from))
unfolding after_polls
poll_event_shape when = poll_event_shape_after when 0 (start when.from) refl tt

abbrev DataShape : When → DataPoll → Type 0
DataShape when q = Shape when q.gave q.run.state q.run.log

passes_shape : (when : When) (gave : Polled) (r : Run) (later : DataPoll) → Shape when (packet_of gave) r.state r.log
    → (Quiet r.log → DataShape when later) → DataShape when (pass_events gave r later)
unfolding pass_events
passes_shape when nothing r later h k = h
passes_shape when (event w) r later h k = k h
passes_shape when (packet p) r later h k = h

poll_until_data_shape : (when : When) (visits polls : ℕ) (r : Run) → AfterPolls when polls r → Quiet r.log
    → DataShape when (poll_until_data when.time visits r)
unfolding poll_until_data after_polls
poll_until_data_shape when zero polls r here h = h
poll_until_data_shape when (suc visits) polls r here h =
    let x = poll_event when.time r in
    passes_shape when x.gave x.run (poll_until_data when.time visits x.run) (poll_event_shape_after when polls r here h)
    (λ q. poll_until_data_shape when visits (suc polls) x.run (ap (λ (y : Run). (poll_event when.time y).run) here) q)

poll_data_bounded_shape : (when : When) (max_events : ℕ)
    → DataShape when (poll_data_bounded when.time max_events (start when.from))
unfolding poll_data_bounded after_polls
poll_data_bounded_shape when max_events =
    if_elim (DataShape when) _ _ _ (λ e. tt)
    (λ e. poll_until_data_shape when (min max_events max_visits) 0 (start when.from) refl tt)

-- ---- a call

abbrev pub StepShape : When → Step → Type 0
StepShape when step = Shape when (delivered_by step.answer) step.state step.log

polled_shape : (when : When) (gave : Polled) (s : State) (log : List Mark) → Shape when (packet_of gave) s log
    → Shape when (delivered_by (polled gave)) s log
unfolding delivered_by
polled_shape when nothing s log h = h
polled_shape when (event w) s log h = h
polled_shape when (packet p) s log h = h

-- what is no poll is quiet and gives nothing
unpolled_shape : (store output list : ℕ) (c : Call) (s : State) → is_poll c ≡ false → StepShape (when_of c s) (step_of store output list c s)
unpolled_shape store output list c s no_poll =
    subst (λ (o : Option Packet). Shape (when_of c s) o (step_of store output list c s).state (step_of store output list c s).log)
    (sym (others_give_none store output list c s no_poll)) (quiet_of (step_of store output list c s).log (step_marks store output list c s))
  where
    quiet_of : (log : List Mark) → All (Only (Putting (calling store output list c s)) (Polls c)) log → Quiet log
    quiet_of log = all_map _ (Only (Unit {0}) ⊥) quiet_mark log
      where
        quiet_mark : (mark : Mark) → Only (Putting (calling store output list c s)) (Polls c) mark → Only (Unit {0}) ⊥ mark
        quiet_mark (put cell payload) h = tt
        quiet_mark (base_set base) h = tt
        quiet_mark (collected p) h = tt
        quiet_mark (gap_skipped tested time distance) h = not_both (polls_is_poll h).0 no_poll
        quiet_mark (delivered p) h = not_both (polls_is_poll h).0 no_poll

polled_by : (store output list : ℕ) (c : Call) (s : State) → Polls c → StepShape (when_of c s) (step_of store output list c s)
unfolding step_of time_of delivered_by event_poll_body poll_event_call data_poll_body poll_data_call
polled_by store output list c s (polls_events time is) =
    subst (λ (x : Call). StepShape (when_of x s) (step_of store output list x s)) (sym is)
    (guard_elim (StepShape record { time = time; from = s }) _ s _ (λ code. tt)
    (polled_shape record { time = time; from = s } (poll_event time (start s)).gave _ _ (poll_event_shape record { time = time; from = s })))
polled_by store output list c s (polls_packets time max_events is) =
    subst (λ (x : Call). StepShape (when_of x s) (step_of store output list x s)) (sym is)
    (guard_elim (StepShape record { time = time; from = s }) _ s _ (λ code. tt) (poll_data_bounded_shape record { time = time; from = s } max_events))

-- every call, lent a store, an output and a list of these lengths
pub step_of_shape : (store output list : ℕ) (call : Call) (s : State) → StepShape (when_of call s) (step_of store output list call s)
step_of_shape store output list call s =
    by_test (is_poll call) (λ poll. polled_by store output list call s (polls_of call poll)) (unpolled_shape store output list call s)

-- as it is asked for
pub call_shape : (call : Asked) (s : State)
    → Shape (when_of call.call s) (delivered_by (do_call call s).answer) (do_call call s).state (do_call call s).log
unfolding do_call perform with_bytes
call_shape call s =
    step_of_shape (length call.lent.store) (length call.lent.output) (length call.lent.list) call.call s
