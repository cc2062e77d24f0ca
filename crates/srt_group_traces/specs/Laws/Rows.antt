-- A call that is not lent the list of sends fills no row of it: only sends do.
use Rattle.std.specs.Prelude.{◌≡◌, refl, true, false, List, [], ℕ, length}
use Rattle.std.proofs.Common.{ap}
use Rattle.srt_group_model.specs.State.{State}
use Rattle.srt_group_model.specs.Sending.{Sent}
use Rattle.srt_group_model.specs.Guards.{Step}
use Rattle.srt_group_model.specs.Calls.{add_body, add_member, mark_member_broken, remove_body, remove_member_connection, refresh_member_states, disconnect, event_poll_body, poll_event_call, data_poll_body, poll_data_call, can_send_body, can_send_call, can_send_with_pacing_body, can_send_with_pacing_call, read_leg, queue_data_body, queue_data, queue_event}
use Rattle.srt_group_model.specs.Lent.{Lent, Call, call_add_member, call_mark_member_broken, call_remove_member_connection, call_refresh_member_states, call_disconnect, call_poll_event, call_poll_data_bounded, call_send, call_can_send, call_can_send_with_pacing, call_look, call_read_leg, call_queue_data, call_queue_event, takes, step_of, with_bytes, perform}
use Rattle.srt_group_model.specs.Laws.Reason.{if_elim, if_some_elim, not_both}
use Rattle.srt_group_model.specs.Laws.Refusals.{guard_elim, look_elim}

abbrev NoSends : Step → Type 0
NoSends step = step.sends ≡ []

no_sends : (store output list : ℕ) (call : Call) (s : State) → (takes call).list ≡ false → NoSends (step_of store output list call s)
unfolding step_of add_member add_body mark_member_broken remove_member_connection remove_body refresh_member_states disconnect poll_event_call event_poll_body poll_data_call data_poll_body can_send_call can_send_body can_send_with_pacing_call can_send_with_pacing_body read_leg queue_data queue_data_body queue_event
no_sends store output list (call_add_member id weight leg queue) s e =
    guard_elim NoSends _ s _ (λ code. refl)
    (if_elim NoSends _ _ _ (λ t. if_some_elim NoSends _ _ _ (λ ms g. refl) (λ g. refl)) (λ t. refl))
no_sends store output list (call_mark_member_broken id) s e = guard_elim NoSends _ s _ (λ code. refl) refl
no_sends store output list (call_remove_member_connection id) s e =
    guard_elim NoSends _ s _ (λ code. refl) (if_some_elim NoSends _ _ _ (λ f g. refl) (λ g. refl))
no_sends store output list call_refresh_member_states s e = guard_elim NoSends _ s _ (λ code. refl) refl
no_sends store output list (call_disconnect time) s e = guard_elim NoSends _ s _ (λ code. refl) refl
no_sends store output list (call_poll_event time) s e = guard_elim NoSends _ s _ (λ code. refl) refl
no_sends store output list (call_poll_data_bounded time max_events) s e = guard_elim NoSends _ s _ (λ code. refl) refl
no_sends store output list (call_send time payload) s e = not_both {t = true} refl e
no_sends store output list call_can_send s e =
    guard_elim NoSends _ s _ (λ code. refl) (if_elim NoSends _ _ _ (λ t. refl) (λ t. refl))
no_sends store output list (call_can_send_with_pacing time) s e =
    guard_elim NoSends _ s _ (λ code. refl) (if_elim NoSends _ _ _ (λ t. refl) (λ t. refl))
no_sends store output list (call_look look) s e = look_elim NoSends look s (λ code. refl) (λ answer f. refl)
no_sends store output list (call_read_leg id field n) s e = guard_elim NoSends _ s _ (λ code. refl) refl
no_sends store output list (call_queue_data id content payload) s e = guard_elim NoSends _ s _ (λ code. refl) refl
no_sends store output list (call_queue_event id kind reason) s e = guard_elim NoSends _ s _ (λ code. refl) refl

pub only_sends_fill_rows : (call : Call) (lent : Lent) (s : State) → (takes call).list ≡ false → (perform call lent s).rows ≡ 0
unfolding perform with_bytes
only_sends_fill_rows call lent s e = ap (λ (l : List Sent). length l) (no_sends _ _ _ call s e)
