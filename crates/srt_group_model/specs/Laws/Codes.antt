-- Which codes a call can end with. Document 01, "Codes from the input" and "Codes from the state". What each leaves: Refusals for those
-- that change nothing, Midway for 22 to 29.
use Rattle.std.specs.Prelude.{◌≡◌, refl, true, not, ◌||◌, List, [], ◌∷◌, ℕ}
use Rattle.std.proofs.Common.{sym, subst}
use Rattle.std.proofs.lemmas.Bool.{not-true}
use Rattle.srt_protocol.specs.Cells.{cells_of}
use Rattle.srt_protocol.specs.Handshake.{has_group_mask}
use Rattle.srt_group_model.specs.Tools.{any, all}
use Rattle.srt_group_model.specs.Laws.Reason.{if_elim, when_true, when_false, by_test, if_some_elim, not_both, and_left, and_right, or_cases}
use Rattle.srt_group_model.specs.State.{State, is_backup, Making}
use Rattle.srt_group_model.specs.Cells.{is_among}
use Rattle.srt_group_model.specs.Guards.{Step, Check, guard, About, Answer, accept, about_group, about_time, about_member}
use Rattle.srt_group_model.specs.Calls.{taken_cell, new_code, add_body, add_member, mark_member_broken, remove_body, remove_member_connection, refresh_member_states, disconnect, poll_event_call, poll_data_call, send_body, send, can_send_body, can_send_call, can_send_with_pacing_body, can_send_with_pacing_call, event_poll_body, data_poll_body, read_leg, queue_data_body, queue_data, queue_event, look_checks}
use Rattle.srt_group_model.specs.Lent.{Lent, look_at, Call, call_add_member, call_mark_member_broken, call_remove_member_connection, call_refresh_member_states, call_disconnect, call_poll_event, call_poll_data_bounded, call_send, call_can_send, call_can_send_with_pacing, call_look, call_read_leg, call_queue_data, call_queue_event, with_bytes, step_of, perform, looking}
use Rattle.srt_group_model.specs.Codes.{new_codes, broadcast_codes, backup_codes, look_codes, codes_of}
use Rattle.srt_group_model.specs.Laws.Refusals.{among_passes, send_body_gives}
use Rattle.srt_group_model.specs.declared.Leg.{Leg}

-- ---- which codes

record Coded (codes : List ℕ) (step : Step) : Type 0 where
  is : is_among step.code codes ≡ true

-- the code of a guard whose test can be true, or the body's
guard_coded : (codes : List ℕ) (cs : List Check) (s : State) (body : Step) → all (λ (c : Check). is_among c.code codes || not c.fails) cs ≡ true
    → Coded codes body → Coded codes (guard cs s body)
unfolding guard all
guard_coded codes [] s body h k = k
guard_coded codes (c ∷ cs) s body h k =
    let can = is_among c.code codes || not c.fails in
    if_elim (Coded codes) c.fails _ _
    (λ e. or_cases (is_among c.code codes) (not c.fails) (and_left can _ h) (λ g. record { is = g }) (λ g. not_both e (not-true c.fails g)))
    (λ e. guard_coded codes cs s body (and_right can _ h) k)

look_coded : (about : About) (s : State) (answer : Answer) → Coded (0 ∷ look_codes about) (guard (look_checks about s) s (accept s answer))
unfolding look_codes look_checks any all
look_coded about_group s _ = guard_coded _ _ s _ refl record { is = refl }
look_coded (about_time time) s _ = guard_coded _ _ s _ refl record { is = refl }
look_coded (about_member id) s _ = guard_coded _ _ s _ refl record { is = refl }

add_body_coded : (id weight : ℕ) (l : Leg) (s : State) → Coded (0 ∷ 6 ∷ 2 ∷ 20 ∷ 21 ∷ 22 ∷ []) (add_body id weight l s)
unfolding add_body any
add_body_coded id weight l s =
    if_elim (Coded (0 ∷ 6 ∷ 2 ∷ 20 ∷ 21 ∷ 22 ∷ [])) _ _ _
    (λ e. if_some_elim (Coded (0 ∷ 6 ∷ 2 ∷ 20 ∷ 21 ∷ 22 ∷ [])) _ _ _ (λ ms g. record { is = refl }) (λ g. record { is = refl }))
    (λ e. record { is = refl })

send_coded : (store list time : ℕ) (payload : List ℕ) (s : State) → Coded (0 ∷ codes_of s.making.mode (call_send time payload)) (send store list time payload s)
unfolding send codes_of any all
send_coded store list time payload s =
    by_test (is_backup s.making.mode)
    (λ b.
    let codes : List ℕ = 0 ∷ 5 ∷ 6 ∷ 2 ∷ 4 ∷ 30 ∷ 23 ∷ backup_codes in
    let given = subst (λ (x : List ℕ). is_among (send_body cell time payload s).code (0 ∷ 23 ∷ x) ≡ true) (when_true _ _ _ b) (send_body_gives cell time payload s) in
    subst (λ (x : List ℕ). Coded (0 ∷ 5 ∷ 6 ∷ 2 ∷ 4 ∷ x) (send store list time payload s)) (sym (when_true (is_backup s.making.mode) _ _ b))
    (guard_coded codes _ s _ refl
    record { is = among_passes (λ n. is_among n codes) (0 ∷ 23 ∷ backup_codes) refl (send_body cell time payload s).code given }))
    (λ b.
    let codes : List ℕ = 0 ∷ 5 ∷ 6 ∷ 2 ∷ 4 ∷ 23 ∷ broadcast_codes in
    let given = subst (λ (x : List ℕ). is_among (send_body cell time payload s).code (0 ∷ 23 ∷ x) ≡ true) (when_false _ _ _ b) (send_body_gives cell time payload s) in
    subst (λ (x : List ℕ). Coded (0 ∷ 5 ∷ 6 ∷ 2 ∷ 4 ∷ x) (send store list time payload s)) (sym (when_false (is_backup s.making.mode) _ _ b))
    (guard_coded codes _ s _ (rw b)
    record { is = among_passes (λ n. is_among n codes) (0 ∷ 23 ∷ broadcast_codes) refl (send_body cell time payload s).code given }))
  where
    cell : ℕ
    cell = taken_cell (cells_of store) s

step_coded : (store output list : ℕ) (c : Call) (s : State) → Coded (0 ∷ codes_of s.making.mode c) (step_of store output list c s)
unfolding step_of codes_of add_member mark_member_broken remove_body remove_member_connection refresh_member_states disconnect event_poll_body poll_event_call data_poll_body poll_data_call can_send_body can_send_call can_send_with_pacing_body can_send_with_pacing_call read_leg queue_data_body queue_data queue_event any all
step_coded store output list (call_add_member id weight l queue) s =
    guard_coded _ _ s _ refl (add_body_coded id weight l s)
step_coded store output list (call_mark_member_broken id) s = guard_coded _ _ s _ refl record { is = refl }
step_coded store output list (call_remove_member_connection id) s =
    guard_coded _ _ s _ refl (if_some_elim (Coded (0 ∷ 6 ∷ 2 ∷ 3 ∷ [])) _ _ _ (λ f g. record { is = refl }) (λ g. record { is = refl }))
step_coded store output list call_refresh_member_states s = guard_coded _ _ s _ refl record { is = refl }
step_coded store output list (call_disconnect time) s = guard_coded _ _ s _ refl record { is = refl }
step_coded store output list (call_poll_event time) s = guard_coded _ _ s _ refl record { is = refl }
step_coded store output list (call_poll_data_bounded time max_events) s = guard_coded _ _ s _ refl record { is = refl }
step_coded store output list (call_send time payload) s = send_coded store list time payload s
step_coded store output list call_can_send s =
    guard_coded _ _ s _ refl (if_elim (Coded (0 ∷ 6 ∷ [])) _ _ _ (λ e. record { is = refl }) (λ e. record { is = refl }))
step_coded store output list (call_can_send_with_pacing time) s =
    guard_coded _ _ s _ refl (if_elim (Coded (0 ∷ 6 ∷ 2 ∷ [])) _ _ _ (λ e. record { is = refl }) (λ e. record { is = refl }))
step_coded store output list (call_look look) s = unfold look_at in (look_coded (looking look).about s _)
step_coded store output list (call_read_leg id field n) s =
    guard_coded _ _ s _ refl record { is = refl }
step_coded store output list (call_queue_data id d payload) s =
    guard_coded _ _ s _ refl record { is = refl }
step_coded store output list (call_queue_event id kind reason) s =
    guard_coded _ _ s _ refl record { is = refl }

-- A call ends with 0 or with one of its codes, whatever the state and what it is lent.
pub call_code : (c : Call) (lent : Lent) (s : State) → is_among (perform c lent s).code (0 ∷ codes_of s.making.mode c) ≡ true
unfolding perform with_bytes
call_code c lent s = (step_coded _ _ _ c s).is

pub new_coded : (making : Making) → is_among (new_code making) (0 ∷ new_codes) ≡ true
unfolding new_code any
new_coded making =
    if_elim (λ (n : ℕ). is_among n (0 ∷ new_codes) ≡ true) _ _ _ (λ e. refl)
    (λ e. if_elim (λ (n : ℕ). is_among n (0 ∷ new_codes) ≡ true) (has_group_mask making.id) 0 1 (λ g. refl) (λ g. refl))
