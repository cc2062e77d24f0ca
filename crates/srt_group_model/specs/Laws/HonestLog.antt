-- The log is honest: what a poll takes off the queues is exactly what it marks as collected, leg by leg and in order. Demand 3
-- speaks through the log of packets collected, "taken as it was queued".
use Rattle.std.specs.Prelude.{◌≡◌, refl, Bool, true, false, List, [], ◌∷◌, ◌++◌, ℕ, zero, suc, eqb, drop, Some}
use Rattle.std.proofs.Common.{sym, ap, ap₂, ◌∙◌, append_assoc, eqb-true, eq-eqb}
use Rattle.srt_group_model.specs.Tools.{if_true◌then◌else◌, any, at_place, change, each, such_that}
use Rattle.srt_group_model.specs.Laws.Reason.{if_elim, by_test, not_both, none_some, some_inj, or_left, or_right, or_yes_left, or_yes_right}
use Rattle.srt_group_model.specs.State.{Member, State}
use Rattle.srt_group_model.specs.Members.{id_of, has_id}
use Rattle.srt_group_model.specs.Run.{Mark, put, base_set, collected, gap_skipped, delivered, start}
use Rattle.srt_group_model.specs.Collecting.{front}
use Rattle.srt_group_model.specs.Cells.{is_data, is_among}
use Rattle.srt_group_model.specs.Validity.{one_twice}
use Rattle.srt_group_model.specs.Guards.{Step}
use Rattle.srt_group_model.specs.Calls.{event_poll_body, poll_event_call, data_poll_body, poll_data_call}
use Rattle.srt_group_model.specs.Lent.{Lent, call_poll_event, call_poll_data_bounded, with_bytes, step_of, perform}
use Rattle.srt_group_model.specs.Laws.Refusals.{guard_elim}
use Rattle.srt_group_model.specs.Laws.Queues.{AllRelabelled, pop, is_collected, QueueLaw}
use Rattle.srt_group_model.specs.Laws.Walk.{poll_event_kept, poll_data_kept}
use Rattle.srt_group_model.specs.declared.Data.{Data}
use Rattle.srt_group_model.specs.declared.Event.{Event}
use Rattle.srt_group_model.specs.Sound.{ids}
use Rattle.srt_group_model.specs.Queued.{contents, queued_at, collected_from}

-- ---- the front of a queue

contents_data : (q : List Event) (e : Event) → front q ≡ Some e → eqb e.kind 0 ≡ true → contents q ≡ e.content ∷ contents (drop 1 q)
unfolding contents such_that each at_place
contents_data [] e f d = none_some f
contents_data (x ∷ q) e f d =
    if_elim (λ (l : List Event). each (λ y. y.content) l ≡ e.content ∷ each (λ y. y.content) (such_that is_data q)) _ _ _
    (λ g. ap (λ (y : Event). y.content ∷ each (λ z. z.content) (such_that is_data q)) (some_inj f))
    (λ g. not_both (ap (λ (y : Event). eqb y.kind 0) (some_inj f) ∙ d) g)

contents_event : (q : List Event) (e : Event) → front q ≡ Some e → eqb e.kind 0 ≡ false → contents q ≡ contents (drop 1 q)
unfolding contents such_that each at_place
contents_event [] e f d = none_some f
contents_event (x ∷ q) e f d =
    if_elim (λ (l : List Event). each (λ y. y.content) l ≡ each (λ y. y.content) (such_that is_data q)) _ _ _
    (λ g. not_both g (ap (λ (y : Event). eqb y.kind 0) (some_inj f) ∙ d))
    (λ g. refl)

-- ---- one id, one member

pub among_ids : (i : ℕ) (m : Member) (ms : List Member) → at_place i ms ≡ Some m → is_among (id_of m) (ids ms) ≡ true
unfolding each any at_place
among_ids zero m [] at = none_some at
among_ids (suc i) m [] at = none_some at
among_ids zero m (x ∷ ms) at = or_yes_left (eqb (id_of x) (id_of m)) _ (eq-eqb (id_of x) (id_of m) (ap id_of (some_inj at)))
among_ids (suc i) m (x ∷ ms) at = or_yes_right (eqb (id_of x) (id_of m)) _ (among_ids i m ms at)

-- the part of a leg's queue that a member has
abbrev part : ℕ → Member → List Data
part id m = if_true has_id id m then contents m.queue else []

taken : ℕ → Member → Event → List Data
taken id m e = if_true eqb (id_of m) id then e.content ∷ [] else []

front_taken : (t : Bool) (a : Data) (old rest q : List Data) → old ≡ a ∷ rest
    → (if_true t then old else []) ++ q ≡ (if_true t then a ∷ [] else []) ++ ((if_true t then rest else []) ++ q)
unfolding if_true◌then◌else◌
front_taken true a old rest q e = ap (λ (l : List Data). l ++ q) e
front_taken false a old rest q e = refl

past_other : (t b : Bool) (d p old new : List Data) → (t ≡ true → b ≡ false) → old ≡ (if_true t then d else []) ++ new
    → (if_true b then p else []) ++ old ≡ (if_true t then d else []) ++ ((if_true b then p else []) ++ new)
unfolding if_true◌then◌else◌
past_other true true d p old new h e = not_both refl (h refl)
past_other true false d p old new h e = e
past_other false true d p old new h e = ap (λ (l : List Data). p ++ l) e
past_other false false d p old new h e = e

-- an id that a later member has is no other's
pub not_twice : (id i : ℕ) (m x : Member) (ms : List Member) → one_twice (ids (x ∷ ms)) ≡ false → at_place i ms ≡ Some m → eqb (id_of m) id ≡ true → has_id id x ≡ false
unfolding each one_twice
not_twice id i m x ms u at e =
    by_test (has_id id x)
    (λ b.
    let same : id_of x ≡ id_of m = eqb-true (id_of x) id b ∙ sym (eqb-true (id_of m) id e) in
    not_both (ap (λ (n : ℕ). is_among n (ids ms)) same ∙ among_ids i m ms at)
    (or_left (is_among (id_of x) (ids ms)) _ u))
    (λ b. b)

pub later_once : (x : Member) (ms : List Member) → one_twice (ids (x ∷ ms)) ≡ false → one_twice (ids ms) ≡ false
unfolding each one_twice
later_once x ms u = or_right (is_among (id_of x) (ids ms)) _ u

popped_data : (id i : ℕ) (m : Member) (e : Event) (ms : List Member) → one_twice (ids ms) ≡ false → at_place i ms ≡ Some m
    → front m.queue ≡ Some e → eqb e.kind 0 ≡ true → queued_at id ms ≡ taken id m e ++ queued_at id (change i pop ms)
unfolding queued_at at_place change taken
popped_data id zero m e [] u at f d = none_some at
popped_data id (suc i) m e [] u at f d = none_some at
popped_data id zero m e (x ∷ ms) u at f d =
    front_taken (has_id id x) e.content _ _ (queued_at id ms)
    (contents_data x.queue e (ap (λ (y : Member). front y.queue) (some_inj at) ∙ f) d)
    ∙ ap (λ (y : Member). taken id y e ++ (part id (pop x) ++ queued_at id ms)) (some_inj at)
popped_data id (suc i) m e (x ∷ ms) u at f d =
    past_other (eqb (id_of m) id) (has_id id x) (e.content ∷ []) (contents x.queue) _ _ (not_twice id i m x ms u at)
    (popped_data id i m e ms (later_once x ms u) at f d)

popped_event : (id i : ℕ) (m : Member) (e : Event) (ms : List Member) → at_place i ms ≡ Some m → front m.queue ≡ Some e
    → eqb e.kind 0 ≡ false → queued_at id ms ≡ queued_at id (change i pop ms)
unfolding queued_at at_place change
popped_event id zero m e [] at f d = none_some at
popped_event id (suc i) m e [] at f d = none_some at
popped_event id zero m e (x ∷ ms) at f d =
    ap (λ (l : List Data). (if_true has_id id x then l else []) ++ queued_at id ms)
    (contents_event x.queue e (ap (λ (y : Member). front y.queue) (some_inj at) ∙ f) d)
popped_event id (suc i) m e (x ∷ ms) at f d =
    ap (λ (l : List Data). part id x ++ l) (popped_event id i m e ms at f d)

pub popped_ids : (i : ℕ) (ms : List Member) → ids (change i pop ms) ≡ ids ms
unfolding each change
popped_ids zero [] = refl
popped_ids (suc i) [] = refl
popped_ids zero (x ∷ ms) = refl
popped_ids (suc i) (x ∷ ms) = ap (λ (l : List ℕ). id_of x ∷ l) (popped_ids i ms)

-- ---- labels

pub relabelled_ids : (ms ns : List Member) → AllRelabelled ms ns → ids ns ≡ ids ms
unfolding each
relabelled_ids [] [] h = refl
relabelled_ids [] (n ∷ ns) h = absurd h
relabelled_ids (m ∷ ms) [] h = absurd h
relabelled_ids (m ∷ ms) (n ∷ ns) h = ap₂ {C = List ℕ} (λ k l. k ∷ l) h.0.id (relabelled_ids ms ns h.1)

relabelled_queued : (id : ℕ) (ms ns : List Member) → AllRelabelled ms ns → queued_at id ns ≡ queued_at id ms
unfolding queued_at
relabelled_queued id [] [] h = refl
relabelled_queued id [] (n ∷ ns) h = absurd h
relabelled_queued id (m ∷ ms) [] h = absurd h
relabelled_queued id (m ∷ ms) (n ∷ ns) h =
    ap₂ {C = List Data} (λ k l. k ++ l)
    (ap₂ {C = List Data} (λ (k : ℕ) (q : List Event). if_true eqb k id then contents q else []) h.0.id h.0.queue)
    (relabelled_queued id ms ns h.1)

-- ---- the law

-- ids are unique, and what was queued at first is what was collected and what is still queued
abbrev Honest : ℕ → List Data → List Member → List Mark → Type 0
Honest id first ms log = (one_twice (ids ms) ≡ false) × (first ≡ collected_from id log ++ queued_at id ms)

other_mark : (id : ℕ) (log : List Mark) (mark : Mark) → is_collected mark ≡ false → collected_from id (mark ∷ log) ≡ collected_from id log
unfolding collected_from
other_mark id log (put cell payload) e = refl
other_mark id log (base_set b) e = refl
other_mark id log (collected p) e = not_both refl e
other_mark id log (gap_skipped s time distance) e = refl
other_mark id log (delivered p) e = refl

honest_law : (id : ℕ) (first : List Data) → QueueLaw (Honest id first)
unfolding collected_from taken
honest_law id first =
    record {
      relabels =
          λ ms ns log h k. (
            ap one_twice (relabelled_ids ms ns h) ∙ k.0,
            k.1 ∙ ap (λ (l : List Data). collected_from id log ++ l) (sym (relabelled_queued id ms ns h)),
          );
      takes_data =
          λ ms log i m e at f d k. (
            ap one_twice (popped_ids i ms) ∙ k.0,
            k.1
                ∙ ap (λ (l : List Data). collected_from id log ++ l) (popped_data id i m e ms k.0 at f d)
                ∙ sym (append_assoc (collected_from id log) (taken id m e) (queued_at id (change i pop ms))),
          );
      takes_event =
          λ ms log i m e at f d k. (
            ap one_twice (popped_ids i ms) ∙ k.0,
            k.1 ∙ ap (λ (l : List Data). collected_from id log ++ l) (popped_event id i m e ms at f d),
          );
      marks =
          λ ms log mark e k.
          (k.0, k.1 ∙ ap (λ (l : List Data). l ++ queued_at id ms) (sym (other_mark id log mark e)));
    }

abbrev pub TakenOff : ℕ → List Member → Step → Type 0
TakenOff id ms x = queued_at id ms ≡ collected_from id x.log ++ queued_at id x.state.members

refused_honest : (id : ℕ) (ms : List Member) → queued_at id ms ≡ collected_from id [] ++ queued_at id ms
unfolding collected_from
refused_honest id ms = refl

-- What an event poll, and a data poll, take off the queue of a leg is what they mark as collected from it.
pub event_poll_honest : (id time : ℕ) (lent : Lent) (s : State) → one_twice (each id_of s.members) ≡ false
    → queued_at id s.members ≡ collected_from id (perform (call_poll_event time) lent s).log ++ queued_at id (perform (call_poll_event time) lent s).state.members
unfolding perform with_bytes step_of poll_event_call event_poll_body
event_poll_honest id time lent s u =
    guard_elim (TakenOff id s.members) _ s _ (λ code. refused_honest id s.members)
    (poll_event_kept (Honest id (queued_at id s.members)) (honest_law id _) time (start s) (u, refused_honest id s.members)).1

pub data_poll_honest : (id time max_events : ℕ) (lent : Lent) (s : State) → one_twice (each id_of s.members) ≡ false
    → queued_at id s.members ≡ collected_from id (perform (call_poll_data_bounded time max_events) lent s).log ++ queued_at id (perform (call_poll_data_bounded time max_events) lent s).state.members
unfolding perform with_bytes step_of poll_data_call data_poll_body
data_poll_honest id time max_events lent s u =
    guard_elim (TakenOff id s.members) _ s _ (λ code. refused_honest id s.members)
    (poll_data_kept (Honest id (queued_at id s.members)) (honest_law id _) time max_events (start s) (u, refused_honest id s.members)).1
