-- Each accepted call and look answers with the case that Answers names for it.
use Rattle.std.specs.Prelude.{◌≡◌, refl, false, List, [], ◌∷◌, ℕ, eqb}
use Rattle.std.proofs.Common.{arith, eq-eqb}
use Rattle.srt_protocol.specs.Cells.{cells_of}
use Rattle.srt_group_model.specs.Tools.{All}
use Rattle.srt_group_model.specs.Laws.Reason.{if_elim, if_some_elim, not_both}
use Rattle.srt_group_model.specs.State.{State}
use Rattle.srt_group_model.specs.Run.{start, refresh_states}
use Rattle.srt_group_model.specs.Members.{has_id, found}
use Rattle.srt_group_model.specs.Guards.{Answer, no_answer, Check, Step, guard, About, about_group, about_time, about_member}
use Rattle.srt_group_model.specs.Calls.{add_body, add_member, mark_member_broken, remove_body, remove_member_connection, refresh_member_states, disconnect, event_poll_body, poll_event_call, data_poll_body, poll_data_call, left_by_send, send_flow, send_body, send, taken_cell, can_send_body, can_send_call, can_send_with_pacing_body, can_send_with_pacing_call, read_leg, queue_data_body, queue_data, queue_event, look_checks}
use Rattle.srt_group_model.specs.Lent.{Lent, Look, look_at, Call, call_add_member, call_mark_member_broken, call_remove_member_connection, call_refresh_member_states, call_disconnect, call_poll_event, call_poll_data_bounded, call_send, call_can_send, call_can_send_with_pacing, call_look, call_read_leg, call_queue_data, call_queue_event, with_bytes, step_of, perform}
use Rattle.srt_group_model.specs.Answers.{CallAnswers}

-- what holds of an accepted step
record IfAccepted (P : Answer → Type 0) (step : Step) : Type 0 where
  holds : step.code ≡ 0 → P step.answer

-- a refusal's code is not 0
abbrev Refuses : Check → Type 0
Refuses c = eqb c.code 0 ≡ false

-- what holds of the body, where all tests are false, holds of the call
guarded : (P : Answer → Type 0) (cs : List Check) (s : State) (body : Step) → All Refuses cs
    → (All (λ (c : Check). c.fails ≡ false) cs → IfAccepted P body)
    → IfAccepted P (guard cs s body)
unfolding guard
guarded P [] s body r k = k tt
guarded P (c ∷ cs) s body r k =
    if_elim (IfAccepted P) c.fails _ _ (λ f. record { holds = λ e. not_both (eq-eqb c.code 0 e) r.0 }) (λ f. guarded P cs s body r.1 (λ g. k (f, g)))

-- no test of a look has the number 0
looks_refuse : (about : About) (s : State) → All Refuses (look_checks about s)
unfolding look_checks
looks_refuse about_group s = (refl, tt)
looks_refuse (about_time time) s = (refl, (refl, tt))
looks_refuse (about_member id) s = (refl, (refl, (refl, tt)))

look_answers : (look : Look) (s : State) → IfAccepted (CallAnswers (call_look look) s) (look_at look s)
unfolding look_at
look_answers look s = guarded (CallAnswers (call_look look) s) _ s _ (looks_refuse _ s) (λ c. record { holds = λ e. refl })

send_body_answers : (cell time : ℕ) (payload : List ℕ) (s : State) → IfAccepted (CallAnswers (call_send time payload) s) (send_body cell time payload s)
unfolding send_body left_by_send
send_body_answers cell time payload s =
    if_elim (IfAccepted (CallAnswers (call_send time payload) s)) (eqb (send_flow cell time payload s (refresh_states (start s))).code 0) _ _
    (λ t. record { holds = λ e. (_, refl) })
    (λ t. record { holds = λ e. not_both (eq-eqb (send_flow cell time payload s (refresh_states (start s))).code 0 e) t })

step_answers : (store output list : ℕ) (call : Call) (s : State) → IfAccepted (CallAnswers call s) (step_of store output list call s)
unfolding step_of add_member add_body mark_member_broken remove_member_connection remove_body refresh_member_states disconnect poll_event_call event_poll_body poll_data_call data_poll_body send can_send_call can_send_body can_send_with_pacing_call can_send_with_pacing_body read_leg queue_data queue_data_body queue_event
step_answers store output list (call_add_member id weight l queue) s =
    guarded (λ (a : Answer). a ≡ no_answer) _ s _ (refl, (refl, (refl, (refl, tt))))
    (λ c.
    if_elim (IfAccepted (λ (a : Answer). a ≡ no_answer)) _ _ _
    (λ t. if_some_elim (IfAccepted (λ (a : Answer). a ≡ no_answer)) _ _ _ (λ ms g. record { holds = λ e. refl }) (λ g. record { holds = λ e. refl })) (λ t. record { holds = λ e. refl }))
step_answers store output list (call_mark_member_broken id) s = guarded (λ (a : Answer). a ≡ no_answer) _ s _ (refl, (refl, (refl, tt))) (λ c. record { holds = λ e. refl })
step_answers store output list (call_remove_member_connection id) s =
    guarded (CallAnswers (call_remove_member_connection id) s) _ s _ (refl, (refl, (refl, tt)))
    (λ c.
    if_some_elim (IfAccepted (CallAnswers (call_remove_member_connection id) s)) (found (has_id id) s.members) _ _ (λ f g. record { holds = λ e. (_, refl) })
    (λ g. record { holds = λ e. absurd (omega (arith, e)) }))
step_answers store output list call_refresh_member_states s = guarded (λ (a : Answer). a ≡ no_answer) _ s _ (refl, tt) (λ c. record { holds = λ e. refl })
step_answers store output list (call_disconnect time) s = guarded (λ (a : Answer). a ≡ no_answer) _ s _ (refl, (refl, tt)) (λ c. record { holds = λ e. refl })
step_answers store output list (call_poll_event time) s =
    guarded (CallAnswers (call_poll_event time) s) _ s _ (refl, (refl, (refl, tt))) (λ c. record { holds = λ e. (_, refl) })
step_answers store output list (call_poll_data_bounded time max_events) s =
    guarded (CallAnswers (call_poll_data_bounded time max_events) s) _ s _ (refl, (refl, (refl, tt))) (λ c. record { holds = λ e. (_, _, refl) })
step_answers store output list (call_send time payload) s =
    guarded (CallAnswers (call_send time payload) s) _ s _ (refl, (refl, (refl, (refl, (refl, tt)))))
    (λ c. send_body_answers (taken_cell (cells_of store) s) time payload s)
step_answers store output list call_can_send s =
    guarded (CallAnswers call_can_send s) _ s _ (refl, tt)
    (λ c. if_elim (IfAccepted (CallAnswers call_can_send s)) _ _ _ (λ t. record { holds = λ e. (_, refl) }) (λ t. record { holds = λ e. (_, refl) }))
step_answers store output list (call_can_send_with_pacing time) s =
    guarded (CallAnswers (call_can_send_with_pacing time) s) _ s _ (refl, (refl, tt))
    (λ c. if_elim (IfAccepted (CallAnswers (call_can_send_with_pacing time) s)) _ _ _ (λ t. record { holds = λ e. (_, refl) }) (λ t. record { holds = λ e. (_, refl) }))
step_answers store output list (call_look look) s = look_answers look s
step_answers store output list (call_read_leg id field n) s = guarded (λ (a : Answer). a ≡ no_answer) _ s _ (refl, (refl, (refl, (refl, tt)))) (λ c. record { holds = λ e. refl })
step_answers store output list (call_queue_data id d payload) s =
    guarded (λ (a : Answer). a ≡ no_answer) _ s _ (refl, (refl, (refl, (refl, (refl, (refl, (refl, tt))))))) (λ c. record { holds = λ e. refl })
step_answers store output list (call_queue_event id kind reason) s = guarded (λ (a : Answer). a ≡ no_answer) _ s _ (refl, (refl, (refl, (refl, tt)))) (λ c. record { holds = λ e. refl })

pub call_answers : (call : Call) (lent : Lent) (s : State) → (perform call lent s).code ≡ 0 → CallAnswers call s (perform call lent s).answer
unfolding perform with_bytes
call_answers call lent s e = (step_answers _ _ _ call s).holds e
