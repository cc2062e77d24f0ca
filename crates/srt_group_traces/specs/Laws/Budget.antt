-- The delivery budget of a visit. Within an event poll what is left of it and the packets collected so far add up to 32: the
-- budget is 32 less the data events popped.
use Rattle.std.specs.Prelude.{◌≡◌, refl, Option}
use Rattle.std.proofs.Math.Bool.{false}
use Prim.Native.Nat.{ℕ, zero, suc, ◌+◌, ◌≤◌}
use native.Mathlib.Omega.{arith}
use Rattle.std.proofs.Math.Dec.{eqb}
use Rattle.srt_group_model.specs.Run.{Run, set_base, admit_connected_peer_groups, refresh_pending_states, refresh_states}
use Rattle.srt_group_model.specs.State.{Member, State}
use Rattle.srt_group_model.specs.Collecting.{collect_member_event, Visited, take_front, collect_one_event, collect_until_held, Emptied, collect_until_empty}
use Rattle.srt_group_model.specs.Delivery.{Poll, deliver, give_waiting, skip_after, skip_given_up_gap, max_visits}
use Rattle.srt_group_model.specs.Polls.{delivery_budget, deliver_next, poll_event}
use Rattle.srt_group_model.specs.declared.Event.{Event}
use Rattle.srt_group_model.specs.Laws.Reason.{if_elim, if_some_elim}
use Rattle.srt_group_traces.specs.Statement.{packets_collected}
use Rattle.srt_group_traces.specs.Laws.Cases.{eq_of, not_eq_of}

module _ (n : ℕ) where
  -- a call under way: what is left and what was collected add up to n
  abbrev Spent : Run → Type 0
  Spent r = r.budget + packets_collected r.log ≡ n

  collect_member_event_spent : (i id : ℕ) (e : Event) (r : Run) → eqb r.budget 0 ≡ false → Spent r → Spent (collect_member_event i id e r)
  unfolding collect_member_event packets_collected
  collect_member_event_spent i id e r some_left h =
      if_elim Spent (eqb e.kind 0) _ _ (λ t. omega (arith, above_zero r.budget some_left)) (λ t. h)
    where
      above_zero : (b : ℕ) → eqb b 0 ≡ false → 1 ≤ b
      above_zero zero f = absurd (not_eq_of 0 0 f (omega arith))
      above_zero (suc b) f = omega arith

  take_front_spent : (i : ℕ) (m : Member) (r : Run) → Spent r → Spent (take_front i m r).run
  unfolding take_front
  take_front_spent i m r h =
      if_some_elim (λ (v : Visited). Spent v.run) _ _ _
      (λ e there.
      if_elim (λ (v : Visited). Spent v.run) (eqb r.budget 0) _ _ (λ t. omega (arith, eq_of r.budget 0 t))
      (λ t. collect_member_event_spent i _ e _ t h))
      (λ e. h)

  collect_one_event_spent : (r : Run) → Spent r → Spent (collect_one_event r).run
  unfolding collect_one_event
  collect_one_event_spent r h =
      if_some_elim (λ (v : Visited). Spent v.run) _ _ _
      (λ i e. if_some_elim (λ (v : Visited). Spent v.run) _ _ _ (λ m there. take_front_spent i m r h) (λ e. h)) (λ e. h)

  collect_until_held_spent : (visits : ℕ) (r : Run) → Spent r → Spent (collect_until_held visits r)
  unfolding collect_until_held
  collect_until_held_spent zero r h = h
  collect_until_held_spent (suc visits) r h =
      if_elim Spent _ _ _ (λ e. h)
      (λ e.
      if_elim Spent _ _ _ (λ e. collect_one_event_spent r h)
      (λ e.
      if_elim Spent _ _ _ (λ e. collect_one_event_spent r h)
      (λ e. collect_until_held_spent visits _ (collect_one_event_spent r h))))

  collect_until_empty_spent : (visits sequence : ℕ) (r : Run) → Spent r → Spent (collect_until_empty visits sequence r).run
  unfolding collect_until_empty
  collect_until_empty_spent zero sequence r h = h
  collect_until_empty_spent (suc visits) sequence r h =
      if_elim (λ (v : Emptied). Spent v.run) _ _ _ (λ e. h)
      (λ e.
      if_elim (λ (v : Emptied). Spent v.run) (collect_one_event r).took _ _
      (λ e. collect_until_empty_spent visits sequence _ (collect_one_event_spent r h)) (λ e. collect_one_event_spent r h))

  set_base_spent : (base : Option ℕ) (r : Run) → Spent r → Spent (set_base base r)
  unfolding set_base packets_collected
  set_base_spent base r h = if_some_elim Spent _ _ _ (λ b e. h) (λ e. if_some_elim Spent base _ _ (λ b is. h) (λ e. h))

  refresh_pending_spent : (r : Run) → Spent r → Spent (refresh_pending_states r)
  unfolding refresh_pending_states admit_connected_peer_groups
  refresh_pending_spent r h = set_base_spent _ r h

  refresh_spent : (r : Run) → Spent r → Spent (refresh_states r)
  unfolding refresh_states
  refresh_spent r h = refresh_pending_spent r h

  deliver_spent : (base : ℕ) (r : Run) → Spent r → Spent (deliver base r).run
  unfolding deliver packets_collected
  deliver_spent base r h = if_some_elim (λ (q : Poll). Spent q.run) _ _ _ (λ p e. h) (λ e. h)

  give_waiting_spent : (r : Run) → Spent r → Spent (give_waiting r).run
  unfolding give_waiting
  give_waiting_spent r h = if_some_elim (λ (q : Poll). Spent q.run) _ _ _ (λ w e. h) (λ e. h)

  skip_after_spent : (time : ℕ) (tested : State) (base : ℕ) (c : Emptied) → Spent c.run → Spent (skip_after time tested base c).run
  unfolding skip_after packets_collected
  skip_after_spent time tested base c h =
      if_elim (λ (q : Poll). Spent q.run) _ _ _ (λ e. give_waiting_spent c.run h)
      (λ e.
      if_elim (λ (q : Poll). Spent q.run) _ _ _
      (λ e. if_some_elim (λ (q : Poll). Spent q.run) _ _ _ (λ p near. deliver_spent _ _ h) (λ e. h))
      (λ e. deliver_spent base c.run h))

  deliver_next_spent : (time : ℕ) (r : Run) → Spent r → Spent (deliver_next time r).run
  unfolding deliver_next skip_given_up_gap
  deliver_next_spent time r h =
      if_some_elim (λ (q : Poll). Spent q.run) _ _ _
      (λ base e.
      if_elim (λ (q : Poll). Spent q.run) _ _ _ (λ e. deliver_spent base r h)
      (λ e. skip_after_spent time r.state base _ (collect_until_empty_spent max_visits base r h)))
      (λ e. if_some_elim (λ (q : Poll). Spent q.run) _ _ _ (λ p near. deliver_spent _ _ (set_base_spent _ r h)) (λ e. h))

-- What is left and what the poll collected add up to 32; the marks before it are not its own.
pub budget_is_what_is_left : (time : ℕ) (r : Run)
    → (poll_event time r).run.budget + packets_collected (poll_event time r).run.log ≡ delivery_budget + packets_collected r.log
unfolding poll_event
budget_is_what_is_left time r =
    let n : ℕ = delivery_budget + packets_collected r.log in
    let gathered = collect_until_held_spent n max_visits _ (refresh_pending_spent n _ refl) in
    if_elim (λ (q : Poll). Spent n q.run) _ _ _ (λ e. give_waiting_spent n _ gathered)
    (λ e. deliver_next_spent n time _ (refresh_spent n _ gathered))
