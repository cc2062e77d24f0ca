-- The calls by what they are lent, and what a call leaves besides its state and its marks: the packet that it gives, the payload that
-- it puts. The definitions are in specs/Statement.antt.
use Rattle.std.specs.Prelude.{◌≡◌, refl, true, false, List, ℕ, length, None}
use Rattle.std.proofs.Common.{sym, ap, ◌∙◌}
use Rattle.srt_group_model.specs.State.{State}
use Rattle.srt_group_model.specs.Guards.{Step, Check, guard, accept, no_answer}
use Rattle.srt_group_model.specs.Calls.{add_body, add_member, mark_member_broken, remove_body, remove_member_connection, refresh_member_states, disconnect, left_by_send, send_body, send, can_send_body, can_send_call, can_send_with_pacing_body, can_send_with_pacing_call, read_leg, queue_data_body, queue_data, queue_event}
use Rattle.srt_group_model.specs.Lent.{Call, call_add_member, call_mark_member_broken, call_remove_member_connection, call_refresh_member_states, call_disconnect, call_poll_event, call_poll_data_bounded, call_send, call_can_send, call_can_send_with_pacing, look_at, call_look, call_read_leg, call_queue_data, call_queue_event, delivered_by, step_of}
use Rattle.srt_group_model.specs.declared.Data.{Data}
use Rattle.srt_group_model.specs.Laws.Reason.{if_elim, if_some_elim, not_both}
use Rattle.srt_group_model.specs.Laws.Refusals.{guard_elim, look_elim}
use Rattle.srt_group_model.specs.Laws.CallLaw.{Polls, polls_events, polls_packets, TakesCell, queues_it, sends_it}
use Rattle.srt_group_traces.specs.Statement.{Asked, takes_store, is_poll}

-- ---- one call

-- the same without the bytes
abbrev pub step : Asked → State → Step
step asked s =
    step_of (length asked.lent.store) (length asked.lent.output) (length asked.lent.list) asked.call s

-- ---- the calls that are lent no store put nothing and give no packet

pub record Silent (step : Step) : Type 0 where
  pub no_packet : delivered_by step.answer ≡ None
  pub no_put : step.put ≡ None

silent_guard : (checks : List Check) (s : State) (body : Step) → Silent body → Silent (guard checks s body)
unfolding delivered_by
silent_guard checks s body = guard_elim Silent checks s body (λ code. record { no_packet = refl; no_put = refl })

silent_accept : (checks : List Check) (t s : State) → Silent (guard checks s (accept t no_answer))
unfolding delivered_by
silent_accept checks t s = silent_guard checks s _ record { no_packet = refl; no_put = refl }

-- it leaves the same, whatever it is lent
pub record Unlent (c : Call) : Type 0 where
  pub leaves : State → Step
  pub is : (store output list : ℕ) (s : State) → step_of store output list c s ≡ leaves s
  pub silent : (s : State) → Silent (leaves s)

pub data Kind : Call → Type 0 where
  event_poll : (time : ℕ) → Kind (call_poll_event time)
  data_poll : (time max_events : ℕ) → Kind (call_poll_data_bounded time max_events)
  sending : (time : ℕ) (payload : List ℕ) → Kind (call_send time payload)
  queueing_data : (id : ℕ) (d : Data) (payload : List ℕ) → Kind (call_queue_data id d payload)
  lent_no_store : (c : Call) → takes_store c ≡ false → is_poll c ≡ false → Unlent c → Kind c

-- so is every call that none of these names
no_store : (c : Call) (leaves : State → Step) → takes_store c ≡ false → is_poll c ≡ false → ((store output list : ℕ) (s : State) → step_of store output list c s ≡ leaves s)
    → ((s : State) → Silent (leaves s)) → Kind c
no_store c leaves lent poll is silent = lent_no_store c lent poll record { leaves = leaves; is = is; silent = silent }

pub kind_of : (c : Call) → Kind c
unfolding step_of takes_store is_poll add_member add_body mark_member_broken remove_member_connection remove_body refresh_member_states disconnect can_send_call can_send_body can_send_with_pacing_call can_send_with_pacing_body read_leg queue_event delivered_by
kind_of (call_add_member id weight leg queue) =
    no_store _ (add_member id weight leg queue) refl refl (λ store output list s. refl)
    (λ s.
    silent_guard _ s _
    (if_elim Silent _ _ _ (λ e. if_some_elim Silent _ _ _ (λ ms g. record { no_packet = refl; no_put = refl }) (λ g. record { no_packet = refl; no_put = refl }))
    (λ e. record { no_packet = refl; no_put = refl })))
kind_of (call_mark_member_broken id) = no_store _ (mark_member_broken id) refl refl (λ store output list s. refl) (λ s. silent_accept _ _ s)
kind_of (call_remove_member_connection id) =
    no_store _ (remove_member_connection id) refl refl (λ store output list s. refl)
    (λ s. silent_guard _ s _ (if_some_elim Silent _ _ _ (λ f e. record { no_packet = refl; no_put = refl }) (λ e. record { no_packet = refl; no_put = refl })))
kind_of call_refresh_member_states =
    no_store _ refresh_member_states refl refl (λ store output list s. refl) (λ s. silent_guard _ s _ record { no_packet = refl; no_put = refl })
kind_of (call_disconnect time) = no_store _ (disconnect time) refl refl (λ store output list s. refl) (λ s. silent_accept _ _ s)
kind_of (call_poll_event time) = event_poll time
kind_of (call_poll_data_bounded time max_events) = data_poll time max_events
kind_of (call_send time payload) = sending time payload
kind_of call_can_send =
    no_store _ can_send_call refl refl (λ store output list s. refl)
    (λ s. silent_guard _ s _ (if_elim Silent _ _ _ (λ e. record { no_packet = refl; no_put = refl }) (λ e. record { no_packet = refl; no_put = refl })))
kind_of (call_can_send_with_pacing time) =
    no_store _ (can_send_with_pacing_call time) refl refl (λ store output list s. refl)
    (λ s. silent_guard _ s _ (if_elim Silent _ _ _ (λ e. record { no_packet = refl; no_put = refl }) (λ e. record { no_packet = refl; no_put = refl })))
kind_of (call_look look) =
    no_store _ (look_at look) refl refl (λ store output list s. refl)
    (λ s. look_elim Silent look s (λ code. record { no_packet = refl; no_put = refl }) (λ answer e. record { no_packet = e; no_put = refl }))
kind_of (call_read_leg id field n) = no_store _ (read_leg id field n) refl refl (λ store output list s. refl) (λ s. silent_accept _ _ s)
kind_of (call_queue_data id d payload) = queueing_data id d payload
kind_of (call_queue_event id kind reason) = no_store _ (queue_event id kind reason) refl refl (λ store output list s. refl) (λ s. silent_accept _ _ s)

unlent_by : {c : Call} → Kind c → takes_store c ≡ false → Unlent c
unfolding takes_store
unlent_by (event_poll time) e = not_both {t = true} refl e
unlent_by (data_poll time max_events) e = not_both {t = true} refl e
unlent_by (sending time payload) e = not_both {t = true} refl e
unlent_by (queueing_data id d payload) e = not_both {t = true} refl e
unlent_by (lent_no_store c lent poll h) e = h

pub unlent : (c : Call) → takes_store c ≡ false → Unlent c
unlent c = unlent_by (kind_of c)

pub same_whatever_lent : (store output list store' output' list' : ℕ) (c : Call) (s : State) → takes_store c ≡ false
    → step_of store output list c s ≡ step_of store' output' list' c s
same_whatever_lent store output list store' output' list' c s e = (unlent c e).is store output list s ∙ sym ((unlent c e).is store' output' list' s)

pub unlent_puts_nothing : (store output list : ℕ) (c : Call) (s : State) → takes_store c ≡ false → (step_of store output list c s).put ≡ None
unlent_puts_nothing store output list c s e = ap (λ (x : Step). x.put) ((unlent c e).is store output list s) ∙ ((unlent c e).silent s).no_put

-- ---- only a poll delivers, and a call that polls or takes a cell is lent a store

polls_by : {c : Call} → Kind c → is_poll c ≡ true → Polls c
unfolding is_poll
polls_by (event_poll time) e = polls_events time refl
polls_by (data_poll time max_events) e = polls_packets time max_events refl
polls_by (sending time payload) e = not_both {t = false} e refl
polls_by (queueing_data id d payload) e = not_both {t = false} e refl
polls_by (lent_no_store c lent poll h) e = not_both e poll

pub polls_of : (c : Call) → is_poll c ≡ true → Polls c
polls_of c = polls_by (kind_of c)

pub polls_is_poll : {c : Call} → Polls c → (is_poll c ≡ true) × (takes_store c ≡ true)
unfolding is_poll takes_store
polls_is_poll (polls_events time is) = (ap is_poll is, ap takes_store is)
polls_is_poll (polls_packets time max_events is) = (ap is_poll is, ap takes_store is)

pub takes_cell_lent : {c : Call} {payload : List ℕ} → TakesCell c payload → (takes_store c ≡ true) × (is_poll c ≡ false)
unfolding takes_store is_poll
takes_cell_lent (queues_it id d is) = (ap takes_store is, ap is_poll is)
takes_cell_lent (sends_it time is) = (ap takes_store is, ap is_poll is)

gives_none_by : {c : Call} (store output list : ℕ) (s : State) → Kind c → is_poll c ≡ false → delivered_by (step_of store output list c s).answer ≡ None
unfolding is_poll step_of send send_body left_by_send queue_data queue_data_body delivered_by
gives_none_by store output list s (event_poll time) e = not_both {t = true} refl e
gives_none_by store output list s (data_poll time max_events) e = not_both {t = true} refl e
gives_none_by store output list s (sending time payload) e =
    guard_elim (λ (x : Step). delivered_by x.answer ≡ None) _ s _ (λ code. refl) (if_elim (λ (x : Step). delivered_by x.answer ≡ None) _ _ _ (λ e. refl) (λ e. refl))
gives_none_by store output list s (queueing_data id d payload) e = guard_elim (λ (x : Step). delivered_by x.answer ≡ None) _ s _ (λ code. refl) refl
gives_none_by store output list s (lent_no_store c lent poll h) e =
    ap (λ (x : Step). delivered_by x.answer) (h.is store output list s) ∙ (h.silent s).no_packet

pub others_give_none : (store output list : ℕ) (c : Call) (s : State) → is_poll c ≡ false → delivered_by (step_of store output list c s).answer ≡ None
others_give_none store output list c s = gives_none_by store output list s (kind_of c)
