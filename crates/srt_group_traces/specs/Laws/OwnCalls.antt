-- Our own calls never give 6: the proof of specs/OwnCalls.antt, claim by claim. A state of our own breaks no rule (`breaks_rule`, over the
-- cells of the length given at the start, else over all that there can be), whatever stores the calls were lent: a call that is lent
-- a store goes on only where the state is valid over it, and then leaves it so.
use Rattle.std.specs.Prelude.{◌≡◌, refl, Bool, true, false, ◌&&◌, ◌⊎◌, List, [], ◌∷◌, ℕ, ◌*◌, eqb, length}
use Rattle.std.proofs.Common.{sym, ap, ◌∙◌, subst, inl, inr, arith}
use Rattle.srt_protocol.specs.Cells.{cell_size, cells_of, max_cells}
use Rattle.srt_group_model.specs.Tools.{All, any}
use Rattle.srt_group_model.specs.State.{State, Making}
use Rattle.srt_group_model.specs.Validity.{is_invalid, cell_beyond_store}
use Rattle.srt_group_model.specs.Guards.{Step, Check, ◌when◌, guard, About, Answer, accept, about_group, about_time, about_member}
use Rattle.srt_group_model.specs.Calls.{store_unfit, cells_given, breaks_rule, new, new_code, add_body, add_member, mark_member_broken, remove_body, remove_member_connection, refresh_member_states, disconnect, event_poll_body, poll_event_call, data_poll_body, poll_data_call, send_body, send, can_send_body, can_send_call, can_send_with_pacing_body, can_send_with_pacing_call, read_leg, queue_data_body, queue_data, queue_event, look_checks}
use Rattle.srt_group_model.specs.Lent.{look_at, looking, Call, call_add_member, call_mark_member_broken, call_remove_member_connection, call_refresh_member_states, call_disconnect, call_poll_event, call_poll_data_bounded, call_send, call_can_send, call_can_send_with_pacing, call_look, call_read_leg, call_queue_data, call_queue_event, with_bytes, step_of, perform}
use Rattle.srt_group_model.specs.Laws.Reason.{if_elim, if_some_elim, when_true, when_false, by_test, not_both, or_left, or_right, or_yes_left}
use Rattle.srt_group_model.specs.Laws.Refusals.{guard_passed, guard_stops, changes_nothing, send_body_midway}
use Rattle.srt_group_model.specs.Laws.Valid.{valid_of, of_valid, valid_kept, valid_wider, new_valid}
use Rattle.srt_group_traces.specs.Statement.{Asked, do_call, takes_store, state_after, reached}
use Rattle.srt_group_traces.specs.Port.{Taken, shown_of, all_shown, calls_of, Performed}
use Rattle.srt_group_traces.specs.OwnCalls.{brings_packets, Excepted, leg_not_empty, store_too_small, NoneGives6, NoneShows6, LentBytes, Careful, SixesExcepted, OwnCalls}
use Rattle.srt_group_traces.specs.Laws.Cases.{eq_of, eqb_yes, not_eq_of, and_with_true}
use Rattle.srt_group_traces.specs.Laws.Calls.{Kind, event_poll, data_poll, sending, queueing_data, lent_no_store, kind_of}
use Rattle.srt_group_traces.specs.Laws.Port.{by_step}
use Rattle.srt_group_traces.specs.Laws.StaysValid.{store_length_stays, ValidAt, call_stays_valid, given_length_lent, unfit_length, not_zero, valid_breaks_no_rule}

-- ---- a state of our own breaks no rule

-- all the cells that there can be
abbrev widest : ℕ
widest = max_cells * cell_size

-- a call that is lent a store over which the state is not valid is refused
invalid_leaves : {c : Call} (store output list : ℕ) (s : State) → Kind c → takes_store c ≡ true → is_invalid (cells_of store) s ≡ true
    → (step_of store output list c s).state ≡ s
unfolding step_of poll_event_call poll_data_call send queue_data
invalid_leaves store output list s (event_poll time) takes bad =
    guard_passed (λ (step : Step). step.state ≡ s) _ s _ (λ code. refl) (λ c. not_both bad c.1.0)
invalid_leaves store output list s (data_poll time max_events) takes bad =
    guard_passed (λ (step : Step). step.state ≡ s) _ s _ (λ code. refl) (λ c. not_both bad c.1.0)
invalid_leaves store output list s (sending time payload) takes bad =
    guard_passed (λ (step : Step). step.state ≡ s) _ s _ (λ code. refl) (λ c. not_both bad c.1.0)
invalid_leaves store output list s (queueing_data id d payload) takes bad =
    guard_passed (λ (step : Step). step.state ≡ s) _ s _ (λ code. refl) (λ c. not_both bad c.1.0)
invalid_leaves store output list s (lent_no_store c unlent poll k) takes bad = not_both takes unlent

-- over all cells validity is kept whatever is lent
stays_valid_widest : (call : Asked) (s : State) → ValidAt widest s → ValidAt widest (do_call call s).state
unfolding do_call perform with_bytes
stays_valid_widest call s h =
    by_test (takes_store call.call)
    (λ takes.
    by_test (is_invalid (cells_of (length call.lent.store)) s)
    (λ bad. subst (ValidAt widest) (sym (invalid_leaves _ _ _ s (kind_of call.call) takes bad)) h)
    (λ good.
    valid_wider (cells_of (length call.lent.store)) (cells_of widest) _ (omega arith) (valid_kept call.call call.lent s good)))
    (λ unlent. call_stays_valid widest call s (λ takes e. not_both takes unlent) h)

-- what that says of a state, without and with a length given at the start
none_given_valid : (s : State) → s.making.length ≡ 0 → breaks_rule s ≡ false → is_invalid max_cells s ≡ false
unfolding cells_given
none_given_valid s e h =
    subst (λ (cells : ℕ). is_invalid cells s ≡ false) (when_true (eqb s.making.length 0) _ _ (ap (λ (n : ℕ). eqb n 0) e ∙ eqb_yes 0)) h

given_valid : (s : State) → (s.making.length ≡ 0 → ⊥) → breaks_rule s ≡ false → ValidAt s.making.length s
unfolding cells_given
given_valid s some_length h =
    subst (λ (cells : ℕ). is_invalid cells s ≡ false)
    (when_false (eqb s.making.length 0) _ _ (not_zero s.making.length some_length)) h

pub own_rules_kept : (call : Asked) (s : State) → breaks_rule s ≡ false → breaks_rule (do_call call s).state ≡ false
own_rules_kept call s h =
    by_test (eqb s.making.length 0)
    (λ e.
    let none_given = eq_of s.making.length 0 e in
    valid_breaks_no_rule widest (do_call call s).state (inl (store_length_stays call s ∙ none_given))
    (stays_valid_widest call s (none_given_valid s none_given h)))
    (λ e.
    let some_length = not_eq_of s.making.length 0 e in
    valid_breaks_no_rule s.making.length (do_call call s).state (inr (store_length_stays call s))
    (call_stays_valid s.making.length call s (given_length_lent s.making.length call s refl some_length) (given_valid s some_length h)))

pub own_rules_along : (calls : List Asked) (s : State) → breaks_rule s ≡ false → breaks_rule (state_after calls s) ≡ false
unfolding state_after
own_rules_along [] s h = h
own_rules_along (call ∷ more) s h = own_rules_along more (do_call call s).state (own_rules_kept call s h)

new_breaks_none : (g : Making) → new_code g ≡ 0 → breaks_rule (new g) ≡ false
new_breaks_none g accepted = new_valid g (cells_given (new g)) accepted

-- ---- where 6 comes from

-- from a test of 6 that is true: the first tests of other codes are false, and no body ends with 6
abbrev NotSix : Step → Type 0
NotSix step = eqb step.code 6 ≡ false

unfoldable six_tested : List Check → Bool
six_tested cs = any (λ (c : Check). eqb c.code 6 && c.fails) cs

guard_not_six : (cs : List Check) (s : State) (body : Step) → six_tested cs ≡ false → NotSix body → NotSix (guard cs s body)
unfolding guard six_tested any
guard_not_six [] s body none_fails h = h
guard_not_six (c ∷ cs) s body none_fails h =
    if_elim NotSix c.fails _ _
    (λ e. and_with_true (eqb c.code 6) (subst (λ (t : Bool). (eqb c.code 6 && t) ≡ false) e (or_left _ _ none_fails)))
    (λ e. guard_not_six cs s body (or_right (eqb c.code 6 && c.fails) _ none_fails) h)

look_not_six : (about : About) (s : State) (answer : Answer) → breaks_rule s ≡ false → NotSix (guard (look_checks about s) s (accept s answer))
unfolding look_checks six_tested any
look_not_six about_group s _ h = guard_not_six _ s _ (rw h) refl
look_not_six (about_time time) s _ h = guard_not_six _ s _ (rw h) refl
look_not_six (about_member id) s _ h = guard_not_six _ s _ (rw h) refl

-- a call that is lent no store
unlent_not_six : (store output list : ℕ) (c : Call) (s : State) → takes_store c ≡ false → brings_packets c ≡ false → breaks_rule s ≡ false
    → NotSix (step_of store output list c s)
unfolding step_of takes_store brings_packets add_member add_body mark_member_broken remove_body remove_member_connection refresh_member_states disconnect can_send_body can_send_call can_send_with_pacing_body can_send_with_pacing_call look_at read_leg queue_event six_tested any
unlent_not_six store output list (call_add_member id weight l queue) s unlent empty h =
    guard_not_six _ s _ (rw (h, empty))
    (if_elim NotSix _ _ _ (λ e. if_some_elim NotSix _ _ _ (λ ms g. refl) (λ g. refl)) (λ e. refl))
unlent_not_six store output list (call_mark_member_broken id) s unlent empty h = guard_not_six _ s _ (rw h) refl
unlent_not_six store output list (call_remove_member_connection id) s unlent empty h =
    guard_not_six _ s _ (rw h) (if_some_elim NotSix _ _ _ (λ f g. refl) (λ g. refl))
unlent_not_six store output list call_refresh_member_states s unlent empty h = guard_not_six _ s _ (rw h) refl
unlent_not_six store output list (call_disconnect time) s unlent empty h = guard_not_six _ s _ (rw h) refl
unlent_not_six store output list (call_poll_event time) s unlent empty h = not_both {t = true} refl unlent
unlent_not_six store output list (call_poll_data_bounded time max_events) s unlent empty h = not_both {t = true} refl unlent
unlent_not_six store output list (call_send time payload) s unlent empty h = not_both {t = true} refl unlent
unlent_not_six store output list call_can_send s unlent empty h =
    guard_not_six _ s _ (rw h) (if_elim NotSix _ _ _ (λ e. refl) (λ e. refl))
unlent_not_six store output list (call_can_send_with_pacing time) s unlent empty h =
    guard_not_six _ s _ (rw h) (if_elim NotSix _ _ _ (λ e. refl) (λ e. refl))
unlent_not_six store output list (call_look look) s unlent empty h = look_not_six (looking look).about s _ h
unlent_not_six store output list (call_read_leg id field n) s unlent empty h = guard_not_six _ s _ (rw h) refl
unlent_not_six store output list (call_queue_data id d payload) s unlent empty h = not_both {t = true} refl unlent
unlent_not_six store output list (call_queue_event id kind reason) s unlent empty h = guard_not_six _ s _ (rw h) refl

-- no code of a send's body is 6
six_changes_nothing : changes_nothing 6 ≡ true
unfolding changes_nothing any
six_changes_nothing = refl

send_body_not_six : (cell time : ℕ) (payload : List ℕ) (s : State) → NotSix (send_body cell time payload s)
send_body_not_six cell time payload s =
    by_test (eqb (send_body cell time payload s).code 6)
    (λ six. not_both (ap changes_nothing (eq_of _ 6 six) ∙ six_changes_nothing) (send_body_midway cell time payload s)) (λ e. e)

-- a call that is lent a store, over which the state is valid
valid_not_six : {c : Call} (store output list : ℕ) (s : State) → Kind c → takes_store c ≡ true → is_invalid (cells_of store) s ≡ false
    → NotSix (step_of store output list c s)
unfolding step_of poll_event_call event_poll_body poll_data_call data_poll_body send queue_data queue_data_body six_tested any
valid_not_six store output list s (event_poll time) takes h = guard_not_six _ s _ (rw h) refl
valid_not_six store output list s (data_poll time max_events) takes h = guard_not_six _ s _ (rw h) refl
valid_not_six store output list s (sending time payload) takes h = guard_not_six _ s _ (rw h) (send_body_not_six _ time payload s)
valid_not_six store output list s (queueing_data id d payload) takes h = guard_not_six _ s _ (rw h) refl
valid_not_six store output list s (lent_no_store c unlent poll k) takes h = not_both takes unlent

-- or one that does not fit, which is 5
stopped_by_5 : (fails : Bool) (cs : List Check) (s : State) (body : Step) → fails ≡ true → NotSix (guard ((5 when fails) ∷ cs) s body)
stopped_by_5 fails cs s body e = ap (λ (step : Step). eqb step.code 6) (guard_stops (5 when fails) cs s body e)

unfit_not_six : {c : Call} (store output list : ℕ) (s : State) → Kind c → takes_store c ≡ true → store_unfit store s ≡ true
    → NotSix (step_of store output list c s)
unfolding step_of poll_event_call poll_data_call send queue_data
unfit_not_six store output list s (event_poll time) takes e = stopped_by_5 _ _ s _ (or_yes_left (store_unfit store s) _ e)
unfit_not_six store output list s (data_poll time max_events) takes e = stopped_by_5 _ _ s _ (or_yes_left (store_unfit store s) _ e)
unfit_not_six store output list s (sending time payload) takes e = stopped_by_5 _ _ s _ (or_yes_left (store_unfit store s) _ e)
unfit_not_six store output list s (queueing_data id d payload) takes e = stopped_by_5 _ _ s _ e
unfit_not_six store output list s (lent_no_store c unlent poll k) takes e = not_both takes unlent

-- with a length given, the store has that length or is 5
other_length_unfit : (store : ℕ) (s : State) → (s.making.length ≡ 0 → ⊥) → eqb store s.making.length ≡ false → store_unfit store s ≡ true
unfolding store_unfit
other_length_unfit store s some_length differ =
    unfit_length store s.making.length _ differ (not_zero s.making.length some_length)

-- a state that breaks no rule of its own breaks one over a store only by a cell that it uses beyond it
beyond : (cells : ℕ) (s : State) → is_invalid max_cells s ≡ false → is_invalid cells s ≡ true → cell_beyond_store cells s ≡ true
beyond cells s h bad =
    by_test (cell_beyond_store cells s) (λ e. e)
    (λ inside. let v = valid_of max_cells s h in not_both bad (of_valid cells s (search (v, inside))))

-- ---- the law of one call

pub six_excepted : (call : Asked) (s : State) → breaks_rule s ≡ false → (do_call call s).code ≡ 6 → Excepted call s
unfolding do_call perform with_bytes
six_excepted call s h six =
    by_test (takes_store call.call)
    (λ takes.
    by_test (is_invalid (cells_of store) s)
    (λ bad.
    by_test (eqb s.making.length 0)
    (λ e. let none_given = eq_of s.making.length 0 e in store_too_small none_given takes (beyond _ s (none_given_valid s none_given h) bad))
    (λ e.
    by_test (eqb store s.making.length)
    (λ same.
    not_both bad
    (subst (λ (n : ℕ). ValidAt n s) (sym (eq_of store s.making.length same)) (given_valid s (not_eq_of s.making.length 0 e) h)))
    (λ differ.
    never (unfit_not_six _ _ _ s (kind_of call.call) takes (other_length_unfit store s (not_eq_of s.making.length 0 e) differ)))))
    (λ good. never (valid_not_six _ _ _ s (kind_of call.call) takes good)))
    (λ unlent.
    by_test (brings_packets call.call) (λ brings. leg_not_empty brings)
    (λ empty. never (unlent_not_six _ _ _ call.call s unlent empty h)))
  where
    store : ℕ
    store = length call.lent.store

    never : {A : Type 0} → eqb (do_call call s).code 6 ≡ false → A
    never not_six = not_both (ap (λ (n : ℕ). eqb n 6) six ∙ eqb_yes 6) not_six

only_excepted : (g : Making) (calls : List Asked) (call : Asked) → new_code g ≡ 0 → (do_call call (reached g calls)).code ≡ 6
    → Excepted call (reached g calls)
only_excepted g calls call accepted = six_excepted call (reached g calls) (own_rules_along calls (new g) (new_breaks_none g accepted))

-- ---- a host that keeps to the premise

-- with stores of n bytes no cell in use lies beyond one
abbrev Kept : List Asked → State → Type 0
Kept calls s = (s.making.length ≡ 0 → ⊥) ⊎ ((n : ℕ) × All (LentBytes n) calls × ValidAt n s)

kept_on : (call : Asked) (more : List Asked) (s : State) → Kept (call ∷ more) s → Kept more (do_call call s).state
kept_on call more s (inl some_length) = inl (λ e. some_length (sym (store_length_stays call s) ∙ e))
kept_on call more s (inr (n, lent, valid)) = inr (n, lent.1, call_stays_valid n call s (λ takes accepted. lent.0 takes) valid)

not_excepted : (call : Asked) (more : List Asked) (s : State) → brings_packets call.call ≡ false → Kept (call ∷ more) s → Excepted call s → ⊥
not_excepted call more s empty kept (leg_not_empty brings) = not_both brings empty
not_excepted call more s empty (inl some_length) (store_too_small none_given takes far) = some_length none_given
not_excepted call more s empty (inr (n, lent, valid)) (store_too_small none_given takes far) =
    not_both far
    (subst (λ (m : ℕ). cell_beyond_store (cells_of m) s ≡ false) (sym (lent.0 takes)) (valid_of (cells_of n) s valid).cells_inside)

none_gives_6 : (calls : List Asked) (s : State) → breaks_rule s ≡ false → any (λ (asked : Asked). brings_packets asked.call) calls ≡ false
    → Kept calls s → NoneGives6 calls s
unfolding any
none_gives_6 [] s h empty kept = tt
none_gives_6 (call ∷ more) s h empty kept = (
  (λ six. not_excepted call more s (or_left (brings_packets call.call) _ empty) kept (six_excepted call s h six)),
  none_gives_6 more (do_call call s).state (own_rules_kept call s h) (or_right (brings_packets call.call) _ empty) (kept_on call more s kept),
)

new_kept : (g : Making) (calls : List Asked) → new_code g ≡ 0 → (g.length ≡ 0 → ⊥) ⊎ ((n : ℕ) × All (LentBytes n) calls) → Kept calls (new g)
unfolding new
new_kept g calls accepted (inl some_length) = inl some_length
new_kept g calls accepted (inr (n, lent)) = inr (n, lent, new_valid g (cells_of n) accepted)

never : (g : Making) (calls : List Asked) → new_code g ≡ 0 → Careful g calls → NoneGives6 calls (new g)
never g calls accepted careful =
    none_gives_6 calls (new g) (new_breaks_none g accepted) careful.legs_empty (new_kept g calls accepted careful.one_length)

-- ---- over what code shows

sixes_excepted : (steps : List Taken) (s : State) → breaks_rule s ≡ false → Performed s steps → SixesExcepted s steps
sixes_excepted [] s h performed = tt
sixes_excepted (t ∷ steps) s h performed =
    by_step (λ (t : Taken). Performed (shown_of t).state steps → SixesExcepted s (t ∷ steps)) s
    (λ call more. (six_excepted call s h, sixes_excepted steps (do_call call s).state (own_rules_kept call s h) more))
    (λ call more. ((λ six. absurd (omega (arith, six))), sixes_excepted steps s h more))
    t performed.0 performed.1

none_shows_6 : (steps : List Taken) (s : State) → Performed s steps → NoneGives6 (calls_of steps) s → NoneShows6 (all_shown steps)
unfolding calls_of all_shown
none_shows_6 [] s performed h = tt
none_shows_6 (t ∷ steps) s performed h =
    by_step
    (λ (t : Taken). Performed (shown_of t).state steps → NoneGives6 (calls_of (t ∷ steps)) s → NoneShows6 (shown_of t ∷ all_shown steps))
    s
    (λ call more k. (k.0, none_shows_6 steps (do_call call s).state more k.1))
    (λ call more k. ((λ six. absurd (omega (arith, six))), none_shows_6 steps s more k))
    t performed.0 performed.1 h

pub own_calls : OwnCalls
own_calls =
    record {
      only_excepted = only_excepted;
      never = never;
      shown_only_excepted = λ g steps accepted performed. sixes_excepted steps (new g) (new_breaks_none g accepted) performed;
      never_shown =
          λ g steps accepted performed careful. none_shows_6 steps (new g) performed (never g (calls_of steps) accepted careful);
    }
