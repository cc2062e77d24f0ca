-- What a list of calls reaches is valid, so no call of it is refused by 6 for our own state. With a store's length given at the
-- start this holds of every list; without one, of every list whose accepted calls are lent stores of one length, so wherever
-- they are lent one store (`OneStore`): a send that ends with 22 to 29 names no new cell (FailedSends). From the model's
-- `valid_kept`, which keeps it over one call.
use Rattle.std.specs.Prelude.{◌≡◌, refl, Bool, true, false, not, ◌&&◌, ◌||◌, ◌⊎◌, List, [], ◌∷◌, ℕ, ◌+◌, ◌*◌, ◌≤◌, ltb, eqb, length, replicate, None, Option, Some}
use Rattle.std.proofs.Common.{sym, ap, ◌∙◌, subst, inl, inr, arith}
use Rattle.std.proofs.lemmas.List.{length-replicate}
use Rattle.srt_protocol.specs.Cells.{cell_size, cells_of, max_cells}
use Rattle.srt_protocol.specs.Laws.CellLaws.{overwritten_length}
use Rattle.srt_group_model.specs.Laws.Reason.{when_true, if_elim, by_test, not_both, or_yes_left, and_left, and_right}
use Rattle.srt_group_model.specs.State.{State, is_backup, Making}
use Rattle.srt_group_model.specs.Validity.{is_invalid}
use Rattle.srt_group_model.specs.Guards.{Step, refuse, Check, guard, Put}
use Rattle.srt_group_model.specs.Calls.{store_unfit, cells_given, breaks_rule, new, new_code, event_poll_body, poll_event_call, data_poll_body, poll_data_call, send, queue_data_body, queue_data, no_free_cell, left_by_send, send_body}
use Rattle.srt_group_model.specs.Lent.{Lent, Call, call_add_member, call_mark_member_broken, call_remove_member_connection, call_refresh_member_states, call_disconnect, call_poll_event, call_poll_data_bounded, call_send, call_can_send, call_can_send_with_pacing, call_look, call_read_leg, call_queue_data, call_queue_event, with_bytes, perform, stored, step_of}
use Rattle.srt_group_model.specs.Laws.Refusals.{guard_elim, guard_passed}
use Rattle.srt_group_model.specs.Laws.Fixed.{making_kept}
use Rattle.srt_group_model.specs.Laws.Valid.{valid_of, of_valid, valid_kept, valid_wider, new_valid}
use Rattle.srt_group_model.specs.Run.{start}
use Rattle.srt_group_traces.specs.Laws.FailedSends.{failed_send_stays_inside}
use Rattle.srt_group_traces.specs.Laws.Cases.{eq_of, eqb_yes, Each, ge_of, and_true_left}
use Rattle.srt_group_traces.specs.Statement.{Asked, do_call, takes_store, state_after, store_left, LendsThis, OneStore}
use Rattle.srt_group_model.specs.Laws.EveryCall.{refresh_mode}
use Rattle.srt_group_traces.specs.Laws.FreeCells.{taken_cell_within}
use Rattle.srt_group_traces.specs.Laws.Calls.{Kind, event_poll, data_poll, sending, queueing_data, lent_no_store, kind_of, same_whatever_lent}

pub store_length_stays : (call : Asked) (s : State) → (do_call call s).state.making.length ≡ s.making.length
unfolding do_call
store_length_stays call s = ap (λ (x : Making). x.length) (making_kept call.call call.lent s)

-- ---- validity along a list

-- an accepted call that is lent a store is lent one of n bytes
abbrev pub LentLength : ℕ → Asked → State → Type 0
LentLength n call s = takes_store call.call ≡ true → (do_call call s).code ≡ 0 → length call.lent.store ≡ n

abbrev pub OneLength : ℕ → List Asked → State → Type 0
OneLength n [] s = Unit {0}
OneLength n (call ∷ more) s = LentLength n call s × OneLength n more (do_call call s).state

-- over a store of n bytes
abbrev pub ValidAt : ℕ → State → Type 0
ValidAt n s = is_invalid (cells_of n) s ≡ false

-- a call that is refused or accepted, and is not accepted, leaves the state
abbrev LeavesIt : State → Step → Type 0
LeavesIt s step = eqb step.code 0 ≡ false → step.state ≡ s

refused_leaves : (checks : List Check) (s : State) (body : Step) → body.code ≡ 0 → LeavesIt s (guard checks s body)
refused_leaves checks s body e =
    guard_elim (LeavesIt s) checks s body (λ code f. refl) (λ f. not_both (ap (λ (n : ℕ). eqb n 0) e ∙ eqb_yes 0) f)

-- a send whose store the state does not fit is refused
unfit_send_leaves : (store list time : ℕ) (payload : List ℕ) (s : State) → is_invalid (cells_of store) s ≡ true
    → (send store list time payload s).state ≡ s
unfolding send
unfit_send_leaves store list time payload s bad =
    guard_passed (λ (step : Step). step.state ≡ s) _ s _ (λ code. refl) (λ c. not_both bad c.1.0)

failed_send_valid : (n : ℕ) (time : ℕ) (payload : List ℕ) (lent : Lent) (s : State) → ValidAt n s
    → eqb (send (length lent.store) (length lent.list) time payload s).code 0 ≡ false
    → ValidAt n (send (length lent.store) (length lent.list) time payload s).state
unfolding perform with_bytes step_of send
failed_send_valid n time payload lent s h failed =
    by_test (is_invalid (cells_of (length lent.store)) s)
    (λ bad. subst (ValidAt n) (sym (unfit_send_leaves (length lent.store) (length lent.list) time payload s bad)) h)
    (λ ok.
    let v = valid_of (cells_of (length lent.store)) _ (valid_kept (call_send time payload) lent s ok) in
    let inside = failed_send_stays_inside (cells_of n) lent time payload s (valid_of (cells_of n) s h).cells_inside failed in
    of_valid (cells_of n) _ (search (v, inside)))

-- a call that is lent a store and is not accepted
failed_by : {c : Call} (n : ℕ) (lent : Lent) (s : State) → Kind c → takes_store c ≡ true → ValidAt n s
    → eqb (step_of (length lent.store) (length lent.output) (length lent.list) c s).code 0 ≡ false
    → ValidAt n (step_of (length lent.store) (length lent.output) (length lent.list) c s).state
unfolding step_of poll_event_call poll_data_call queue_data event_poll_body data_poll_body queue_data_body
failed_by n lent s (event_poll time) takes h e = subst (ValidAt n) (sym (refused_leaves _ s _ refl e)) h
failed_by n lent s (data_poll time max_events) takes h e = subst (ValidAt n) (sym (refused_leaves _ s _ refl e)) h
failed_by n lent s (sending time payload) takes h e = failed_send_valid n time payload lent s h e
failed_by n lent s (queueing_data id d payload) takes h e = subst (ValidAt n) (sym (refused_leaves _ s _ refl e)) h
failed_by n lent s (lent_no_store c unlent poll k) takes h e = not_both takes unlent

pub call_stays_valid : (n : ℕ) (call : Asked) (s : State) → LentLength n call s → ValidAt n s → ValidAt n (do_call call s).state
unfolding do_call perform with_bytes
call_stays_valid n call s lent h =
    by_test (takes_store call.call)
    (λ takes.
    by_test (eqb (perform call.call call.lent s).code 0)
    (λ accepted. at_length call.lent (lent takes (eq_of (perform call.call call.lent s).code 0 accepted)))
    (λ refused. failed_by n call.lent s (kind_of call.call) takes h refused))
    (λ unlent.
    subst (λ (step : Step). ValidAt n step.state)
    (same_whatever_lent (length (replicate n 0)) 0 0 (length call.lent.store) (length call.lent.output) (length call.lent.list) call.call s unlent)
    (at_length record { store = replicate n 0; output = []; list = [] } (length-replicate n 0)))
  where
    at_length : (l : Lent) → length l.store ≡ n → ValidAt n (step_of (length l.store) (length l.output) (length l.list) call.call s).state
    at_length l e =
        subst (λ (m : ℕ). ValidAt m (perform call.call l s).state) e
        (valid_kept call.call l s (subst (λ (m : ℕ). ValidAt m s) (sym e) h))

pub list_stays_valid : (n : ℕ) (calls : List Asked) (s : State) → OneLength n calls s → ValidAt n s → ValidAt n (state_after calls s)
unfolding state_after
list_stays_valid n [] s lent h = h
list_stays_valid n (call ∷ more) s lent h =
    list_stays_valid n more (do_call call s).state lent.1 (call_stays_valid n call s lent.0 h)

-- From a group that `new` makes, with calls that are lent stores of one length.
pub reaches_valid : (g : Making) (n : ℕ) (calls : List Asked) → new_code g ≡ 0 → OneLength n calls (new g)
    → ValidAt n (state_after calls (new g))
reaches_valid g n calls accepted lent =
    list_stays_valid n calls (new g) lent (new_valid g (cells_of n) accepted)

-- ---- with a length given at the start every list is such a list: a store of another length is refused by 5

first_refuses : (c : Check) (checks : List Check) (s : State) (body : Step) → c.fails ≡ true → (guard (c ∷ checks) s body).code ≡ c.code
unfolding guard
first_refuses c checks s body e = ap (λ (step : Step). step.code) (when_true c.fails (refuse c.code s) (guard checks s body) e)

pub unfit_length : (store length : ℕ) (small : Bool) → eqb store length ≡ false → eqb length 0 ≡ false
    → ((not (eqb length 0) && not (eqb store length)) || small) ≡ true
unfit_length store length small e f = rw (f, e)

pub not_zero : (n : ℕ) → (n ≡ 0 → ⊥) → eqb n 0 ≡ false
not_zero n h = by_test (eqb n 0) (λ e. absurd (h (eq_of n 0 e))) (λ e. e)

abbrev Given : ℕ → State → Type 0
Given n s = s.making.length ≡ n

-- a call whose first test is true of an unfit store
unfit_refused : (n : ℕ) (fails : Bool) (checks : List Check) (s : State) (body : Step) (store : ℕ)
    → (store_unfit store s ≡ true → fails ≡ true) → Given n s → (n ≡ 0 → ⊥)
    → (guard (record { code = 5; fails = fails } ∷ checks) s body).code ≡ 0 → store ≡ n
unfolding store_unfit
unfit_refused n fails checks s body store unfit given some_length e =
    by_test (eqb store s.making.length) (λ same. eq_of store s.making.length same ∙ given)
    (λ differ.
    absurd
    (never_five
    (sym
    (first_refuses record { code = 5; fails = fails } checks s body
    (unfit
    (unfit_length store s.making.length (ltb store cell_size) differ (ap (λ (m : ℕ). eqb m 0) given ∙ not_zero n some_length))))
    ∙ e)))
  where
    never_five : ◌≡◌ {A = ℕ} 5 0 → ⊥
    never_five f = omega arith

lends_by : {c : Call} (n : ℕ) (store output list : ℕ) (s : State) → Kind c → Given n s → (n ≡ 0 → ⊥) → takes_store c ≡ true
    → (step_of store output list c s).code ≡ 0 → store ≡ n
unfolding step_of poll_event_call poll_data_call send queue_data
lends_by n store output list s (event_poll time) given some_length takes e =
    unfit_refused n _ _ s _ store (λ t. or_yes_left (store_unfit store s) _ t) given some_length e
lends_by n store output list s (data_poll time max_events) given some_length takes e =
    unfit_refused n _ _ s _ store (λ t. or_yes_left (store_unfit store s) _ t) given some_length e
lends_by n store output list s (sending time payload) given some_length takes e =
    unfit_refused n _ _ s _ store (λ t. or_yes_left (store_unfit store s) _ t) given some_length e
lends_by n store output list s (queueing_data id d payload) given some_length takes e =
    unfit_refused n _ _ s _ store (λ t. t) given some_length e
lends_by n store output list s (lent_no_store c lent poll h) given some_length takes e = not_both takes lent

pub given_length_lent : (n : ℕ) (call : Asked) (s : State) → s.making.length ≡ n → (n ≡ 0 → ⊥) → LentLength n call s
unfolding do_call perform with_bytes
given_length_lent n call s given some_length takes e = lends_by n _ _ _ s (kind_of call.call) given some_length takes e

given_length_lends : (n : ℕ) (calls : List Asked) (s : State) → Given n s → (n ≡ 0 → ⊥) → OneLength n calls s
given_length_lends n [] s given some_length = tt
given_length_lends n (call ∷ more) s given some_length = (
  given_length_lent n call s given some_length,
  given_length_lends n more _ (store_length_stays call s ∙ given) some_length,
)

-- From a group that `new` makes with a store's length given at the start, whatever the calls and whatever they are lent.
pub reaches_valid_given : (g : Making) (calls : List Asked) → new_code g ≡ 0 → (g.length ≡ 0 → ⊥)
    → ValidAt g.length (state_after calls (new g))
unfolding new
reaches_valid_given g calls accepted some_length =
    reaches_valid g g.length calls accepted (given_length_lends g.length calls (new g) refl some_length)

-- ---- one store has one length

-- what is put lies in the store that was lent
abbrev Fits : ℕ → Put → Type 0
Fits n p = p.cell * cell_size + length p.payload ≤ n

abbrev PutFits : ℕ → Step → Type 0
PutFits n step = Each (Fits n) step.put

send_put_fits : (store list time : ℕ) (payload : List ℕ) (s : State) → PutFits store (send store list time payload s)
unfolding send send_body left_by_send
send_put_fits store list time payload s =
    guard_passed (PutFits store) _ s _ (λ code. tt)
    (λ c.
    if_elim (PutFits store) _ _ _
    (λ e.
    if_elim (Each (Fits store)) _ _ _
    (λ backup.
    let free : no_free_cell (cells_of store) s ≡ false =
    and_true_left (is_backup s.making.mode) (no_free_cell (cells_of store) s) (ap is_backup (sym (refresh_mode (start s))) ∙ backup)
    c.1.1.1.1.0
    in
    omega (arith, taken_cell_within store s free, ge_of cell_size (length payload) c.1.1.1.0))
    (λ broadcast. tt))
    (λ e. tt))

put_fits : (store output list : ℕ) (call : Call) (s : State) → takes_store call ≡ true → PutFits store (step_of store output list call s)
unfolding step_of takes_store poll_event_call poll_data_call queue_data event_poll_body data_poll_body queue_data_body
put_fits store output list (call_add_member id weight leg queue) s takes = not_both takes refl
put_fits store output list (call_mark_member_broken id) s takes = not_both takes refl
put_fits store output list (call_remove_member_connection id) s takes = not_both takes refl
put_fits store output list call_refresh_member_states s takes = not_both takes refl
put_fits store output list (call_disconnect time) s takes = not_both takes refl
put_fits store output list (call_poll_event time) s takes = guard_elim (PutFits store) _ s _ (λ code. tt) tt
put_fits store output list (call_poll_data_bounded time max_events) s takes = guard_elim (PutFits store) _ s _ (λ code. tt) tt
put_fits store output list (call_send time payload) s takes = send_put_fits store list time payload s
put_fits store output list call_can_send s takes = not_both takes refl
put_fits store output list (call_can_send_with_pacing time) s takes = not_both takes refl
put_fits store output list (call_look look) s takes = not_both takes refl
put_fits store output list (call_read_leg id field m) s takes = not_both takes refl
put_fits store output list (call_queue_data id content payload) s takes =
    guard_passed (PutFits store) _ s _ (λ code. tt)
    (λ c. omega (arith, taken_cell_within store s c.1.1.1.1.1.0, ge_of cell_size (length payload) c.1.1.1.1.0))
put_fits store output list (call_queue_event id kind reason) s takes = not_both takes refl

stored_length : (o : Option Put) (store : List ℕ) → Each (Fits (length store)) o → length (stored o store) ≡ length store
unfolding stored
stored_length None store h = refl
stored_length (Some p) store h = overwritten_length (p.cell * cell_size) p.payload store h

store_left_length : (store : List ℕ) (call : Asked) (s : State) → LendsThis store call s → length (store_left store call s) ≡ length store
unfolding store_left do_call perform with_bytes
store_left_length store call s lends =
    if_elim (λ (z : List ℕ). length z ≡ length store) (takes_store call.call && eqb (perform call.call call.lent s).code 0) _ _
    (λ e.
    let takes : takes_store call.call ≡ true = and_left (takes_store call.call) _ e in
    stored_length _ call.lent.store (put_fits _ _ _ call.call s takes)
    ∙ ap length (lends takes (eq_of (perform call.call call.lent s).code 0 (and_right (takes_store call.call) _ e))))
    (λ e. refl)

one_store_one_length : (store : List ℕ) (calls : List Asked) (s : State) → OneStore store calls s → OneLength (length store) calls s
one_store_one_length store [] s one = tt
one_store_one_length store (call ∷ more) s one = (
  (λ takes accepted. ap length (one.0 takes accepted)),
  subst (λ (n : ℕ). OneLength n more (do_call call s).state) (store_left_length store call s one.0)
      (one_store_one_length (store_left store call s) more (do_call call s).state one.1),
)

-- With no length given at the start: wherever the accepted calls are lent one store.
pub reaches_valid_over_one_store : (g : Making) (store : List ℕ) (calls : List Asked) → new_code g ≡ 0
    → OneStore store calls (new g) → ValidAt (length store) (state_after calls (new g))
reaches_valid_over_one_store g store calls accepted one =
    reaches_valid g (length store) calls accepted (one_store_one_length store calls (new g) one)

-- ---- so the tests of 6 are false: of a call that is lent a store of n bytes, and of one that is lent none

-- with no length given, or with this one
pub valid_breaks_no_rule : (n : ℕ) (s : State) → (s.making.length ≡ 0) ⊎ (s.making.length ≡ n) → ValidAt n s → breaks_rule s ≡ false
unfolding cells_given
valid_breaks_no_rule n s (inl none_given) h =
    if_elim (λ (cells : ℕ). is_invalid cells s ≡ false) (eqb s.making.length 0) _ _
    (λ e. valid_wider (cells_of n) max_cells s (omega arith) h)
    (λ e. not_both (ap (λ (m : ℕ). eqb m 0) none_given ∙ eqb_yes 0) e)
valid_breaks_no_rule n s (inr this_given) h =
    if_elim (λ (cells : ℕ). is_invalid cells s ≡ false) (eqb s.making.length 0) _ _
    (λ e. valid_wider (cells_of n) max_cells s (omega arith) h)
    (λ e. subst (λ (m : ℕ). is_invalid (cells_of m) s ≡ false) (sym this_given) h)
