-- A Broken member stays Broken until its removal, over every call. Document 01 gives the states; the Rust's `Broken`: "permanently
-- excluded from the group".
use Rattle.std.specs.Prelude.{◌≡◌, refl, Bool, true, false, ◌&&◌, List, [], ◌∷◌, ◌++◌, ℕ, zero, suc, eqb, Some}
use Rattle.std.proofs.Common.{ap, ◌∙◌, eqb-true}
use Rattle.srt_group_model.specs.Tools.{any, at_place, change, without_place}
use Rattle.srt_group_model.specs.Laws.Reason.{by_test, not_both, none_some, some_inj, and_left, and_right, and_yes, or_cases, or_yes_left, or_yes_right, EachTo, each_to_change, each_to_map}
use Rattle.srt_group_model.specs.State.{Member, State, broken_state}
use Rattle.srt_group_model.specs.Members.{id_of, has_id, in_state}
use Rattle.srt_group_model.specs.Removal.{retire, take_out}
use Rattle.srt_group_model.specs.Lent.{Lent, Call, call_remove_member_connection, perform}
use Rattle.srt_group_model.specs.Laws.Queues.{Relabelled, pop, QueueLaw}
use Rattle.srt_group_model.specs.Laws.Walk.{queue_refreshes, queue_collects, queue_polls}
use Rattle.srt_group_model.specs.Laws.CallLaw.{Calling, CallLaw}
use Rattle.srt_group_model.specs.Laws.EveryCall.{call_keeps}
use Rattle.srt_group_model.specs.declared.Membership.{Membership}

-- a member with this id is Broken
abbrev pub is_broken : ℕ → Member → Bool
is_broken id m = has_id id m && in_state broken_state m

abbrev pub BrokenIn : ℕ → List Member → Type 0
BrokenIn id ms = any (is_broken id) ms ≡ true

-- the id stays, and Broken stays Broken
pub record Still (m n : Member) : Type 0 where
  pub id : id_of n ≡ id_of m
  pub broken : in_state broken_state m ≡ true → in_state broken_state n ≡ true

still_same : (m : Member) → Still m m
still_same m = record { id = refl; broken = λ h. h }

relabelled_still : (m n : Member) → Relabelled m n → Still m n
relabelled_still m n h = record { id = h.id; broken = h.broken }

still_broken : (id : ℕ) (m n : Member) → Still m n → is_broken id m ≡ true → is_broken id n ≡ true
still_broken id m n h e =
    and_yes (has_id id n) _ (ap (λ (k : ℕ). eqb k id) h.id ∙ and_left (has_id id m) _ e)
    (h.broken (and_right (has_id id m) _ e))

still_keeps : (id : ℕ) (ms ns : List Member) → EachTo Still ms ns → BrokenIn id ms → BrokenIn id ns
unfolding any
still_keeps id [] [] h e = e
still_keeps id [] (n ∷ ns) h e = absurd h
still_keeps id (m ∷ ms) [] h e = absurd h
still_keeps id (m ∷ ms) (n ∷ ns) h e =
    or_cases (is_broken id m) _ e (λ b. or_yes_left (is_broken id n) _ (still_broken id m n h.0 b))
    (λ b. or_yes_right (is_broken id n) _ (still_keeps id ms ns h.1 b))

-- ---- polls and the refresh

pop_keeps : (id i : ℕ) (ms : List Member) → BrokenIn id ms → BrokenIn id (change i pop ms)
pop_keeps id i ms =
    still_keeps id ms (change i pop ms)
    (each_to_change Still still_same i pop ms (λ m at. record { id = refl; broken = λ h. h }))

broken_law : (id : ℕ) → QueueLaw (λ ms log. BrokenIn id ms)
broken_law id =
    record {
      relabels = λ ms ns log h e. still_keeps id ms ns (each_to_map Relabelled Still relabelled_still ms ns h) e;
      takes_data = λ ms log i m e at g k h. pop_keeps id i ms h;
      takes_event = λ ms log i m e at g k h. pop_keeps id i ms h;
      marks = λ ms log mark e h. h;
    }

-- ---- every call

append_keeps : (id : ℕ) (ms ns : List Member) → BrokenIn id ms → BrokenIn id (ms ++ ns)
unfolding any
append_keeps id [] ns e = not_both e refl
append_keeps id (m ∷ ms) ns e =
    or_cases (is_broken id m) _ e (λ b. or_yes_left (is_broken id m) _ b)
    (λ b. or_yes_right (is_broken id m) _ (append_keeps id ms ns b))

without_keeps : (id i : ℕ) (m : Member) (ms : List Member) → at_place i ms ≡ Some m → has_id id m ≡ false → BrokenIn id ms → BrokenIn id (without_place i ms)
unfolding any at_place without_place
without_keeps id zero m [] at h e = none_some at
without_keeps id (suc i) m [] at h e = none_some at
without_keeps id zero m (x ∷ ms) at h e =
    or_cases (is_broken id x) _ e
    (λ b. not_both (and_left (has_id id x) _ b) (ap (has_id id) (some_inj at) ∙ h))
    (λ b. b)
without_keeps id (suc i) m (x ∷ ms) at h e =
    or_cases (is_broken id x) _ e (λ b. or_yes_left (is_broken id x) _ b)
    (λ b. or_yes_right (is_broken id x) _ (without_keeps id i m ms at h b))

-- a change of one member that leaves its label
still_at : (id i : ℕ) (f : Member → Member) (ms : List Member) → ((m : Member) → (f m).membership ≡ m.membership) → BrokenIn id ms → BrokenIn id (change i f ms)
still_at id i f ms h =
    still_keeps id ms (change i f ms)
    (each_to_change Still still_same i f ms
    (λ m at. record { id = ap (λ (x : Membership). x.id) (h m); broken = λ b. ap (λ (x : Membership). eqb x.state broken_state) (h m) ∙ b }))

broken_moves : (id : ℕ) (k : Calling) → (k.call ≡ call_remove_member_connection id → ⊥) → CallLaw k (λ hand s log. BrokenIn id s.members)
unfolding take_out retire
broken_moves id k other =
    record {
      refreshing = queue_refreshes _ (broken_law id);
      collecting = λ poll. queue_collects _ (broken_law id);
      polling = λ poll. queue_polls _ (broken_law id);
      joins = λ s k weight l queue is j h. append_keeps id s.members _ h;
      leaves = λ s i m is at h. without_keeps id i m s.members at (by_test (has_id id m) (λ e. absurd (other (is ∙ ap (λ (x : ℕ). call_remove_member_connection x) (eqb-true (id_of m) id e)))) (λ e. e)) h;
      retires = λ s id base p is e h. h;
      takes = λ payload takes free h. h;
      puts = λ s cell payload takes accepted short unused h. h;
      lets_go = λ s cell h. h;
      queues_data = λ s i m cell d payload is accepted at full unfit short h. still_at id i _ s.members (λ x. refl) h;
      queues_event = λ s i m k kind reason is at full some_kind known fits h. still_at id i _ s.members (λ x. refl) h;
      numbers = λ s sequence h. h;
      remembers = λ s i m e at next short fits h. h;
      trims = λ s l h. h;
    }

-- A Broken member stays Broken until its removal.
pub broken_stays : (id : ℕ) (c : Call) (lent : Lent) (s : State) → (c ≡ call_remove_member_connection id → ⊥) → BrokenIn id s.members → BrokenIn id (perform c lent s).state.members
broken_stays id c lent s other h = call_keeps (λ hand s log. BrokenIn id s.members) c lent s (broken_moves id _ other) h
