-- What is proved of the public polls: 5 of the output beside 5 of the store, and then the form for a valid state.
use Rattle.srt_protocol.specs.Errors.{Outcome}
use Rattle.std.specs.Prelude.{◌≡◌, Bool, true, false, ◌||◌, List, [], ◌∷◌, ℕ, length, Err, Ok}
use Rattle.std.proofs.Math.Path.{refl}
use Rattle.std.proofs.Common.{sym, ap, subst, ◌∙◌}
use Rattle.srt_protocol.specs.declared.error.Error.{Error}
use Rattle.srt_protocol.specs.Errors.{error_number}
use Rattle.srt_protocol.specs.Cells.{cells_of}
use Rattle.srt_group_model.specs.Validity.{is_invalid}
use Rattle.srt_group_model.specs.Guards.{Answer, no_answer, Step, Check, ◌when◌, guard}
use Rattle.srt_group_model.specs.Calls.{store_unfit, output_unfit, poll_event_call, poll_data_call, event_poll_body, data_poll_body}
use Rattle.srt_group_model.specs.Lent.{Call, call_poll_event, call_poll_data_bounded, takes, step_of}
use Rattle.srt_group_model.specs.Laws.Reason.{by_test, or_no, or_yes_right}
use Rattle.srt_group_model.specs.Laws.Refusals.{guard_stops}
use Rattle.srt_group_shown.specs.Tables.{Parts, Tables, state_of}
use Rattle.srt_group_shown.specs.Ready.{lending, Performs}
use Rattle.srt_group_refusals.specs.Begins.{are_short, BeginsStored, BeginsPoll}
use Rattle.srt_group_refusals.specs.Laws.Begins.{begins_as_stored, has_room, which_poll_refused}
use Rattle.srt_group_refusals.specs.Promised.{showing, Promised}
use Rattle.srt_group_refusals.specs.Laws.Promised.{does_refused, promised_short, promised_does, promised_refused, promised_performed}

module _ (call : Call) (p : Parts) (t : Tables) (store output : List ℕ) (cs : List Check) (body : Step) where
  abbrev step : Step
  step = step_of (length store) (length output) 0 call (state_of p t)

  abbrev refused_with : ℕ → Type 0
  refused_with code = Promised call p t (lending store output) (showing p t (lending store output) code no_answer 0)

  -- a call whose definition tests the output with the store
  abbrev TestsOutput : Type 0
  TestsOutput =
      step
      ≡ guard
      ((5 when (store_unfit (length store) (state_of p t) || output_unfit (length output)))
      ∷ (6 when is_invalid (cells_of (length store)) (state_of p t)) ∷ cs)
      (state_of p t) body

  output_refused : TestsOutput → output_unfit (length output) ≡ true → refused_with 5
  output_refused is unfit =
      by_test (are_short t)
      (λ short. promised_short call p t (lending store output) _ short refl)
      (λ long.
      promised_does call p t (lending store output) _ long
      (does_refused call p t (lending store output) 5
      (is
      ∙ guard_stops (5 when (store_unfit (length store) (state_of p t) || output_unfit (length output))) _ _ body
      (or_yes_right (store_unfit (length store) (state_of p t)) _ unfit))))

  stored_refused : TestsOutput → output_unfit (length output) ≡ false → {r : Outcome} {used : List ℕ}
      → BeginsStored p t (length store) r used → (e : Error) → r ≡ Err e → refused_with (error_number e)
  stored_refused is room begins e refused =
      promised_refused call p t (lending store output) begins cs body
      (is
      ∙ ap (λ (b : Bool). guard ((5 when b) ∷ (6 when is_invalid (cells_of (length store)) (state_of p t)) ∷ cs) (state_of p t) body)
      (ap (λ (b : Bool). store_unfit (length store) (state_of p t) || b) room ∙ or_no (store_unfit (length store) (state_of p t))))
      e refused

  poll_refused : TestsOutput → {r : Outcome} {used : List ℕ} → BeginsPoll p t (length store) (length output) r used
      → (e : Error) → r ≡ Err e → refused_with (error_number e)
  poll_refused is begins e refused =
      which_poll_refused begins e refused
      (λ unfit five. subst refused_with (sym five) (output_refused is unfit))
      (λ room stored. stored_refused is room stored e refused)

  poll_performed : (takes call).list ≡ false → {r : Outcome} {used : List ℕ} → BeginsPoll p t (length store) (length output) r used → r ≡ Ok tt
      → {given : Answer} {p' : Parts} {t' : Tables} {store' output' used' : List ℕ}
      → Performs call p t (lending store output) 0 given p' t' (lending store' output') used'
      → Promised call p t (lending store output) (showing p' t' (lending store' output') 0 given 0)
  poll_performed no_list begins accepted done =
      promised_performed call p t (lending store output) (begins_as_stored begins (has_room begins accepted)) no_list accepted done

-- ---- `poll_data_bounded`

module _ (time max_events : ℕ) (p : Parts) (t : Tables) (store output : List ℕ) {r : Outcome} {used : List ℕ}
    (begins : BeginsPoll p t (length store) (length output) r used) where
  pub data_poll_refused : (e : Error) → r ≡ Err e
      → Promised (call_poll_data_bounded time max_events) p t (lending store output) (showing p t (lending store output) (error_number e) no_answer 0)
  unfolding step_of poll_data_call
  data_poll_refused e refused = poll_refused (call_poll_data_bounded time max_events) p t store output _ _ refl begins e refused

  pub data_poll_performed : r ≡ Ok tt → {given : Answer} {p' : Parts} {t' : Tables} {store' output' used' : List ℕ}
      → Performs (call_poll_data_bounded time max_events) p t (lending store output) 0 given p' t' (lending store' output') used'
      → Promised (call_poll_data_bounded time max_events) p t (lending store output) (showing p' t' (lending store' output') 0 given 0)
  data_poll_performed accepted done = poll_performed (call_poll_data_bounded time max_events) p t store output [] (data_poll_body time max_events (state_of p t)) refl begins accepted done

-- ---- `poll_event`

module _ (time : ℕ) (p : Parts) (t : Tables) (store output : List ℕ) {r : Outcome} {used : List ℕ}
    (begins : BeginsPoll p t (length store) (length output) r used) where
  pub event_poll_refused : (e : Error) → r ≡ Err e
      → Promised (call_poll_event time) p t (lending store output) (showing p t (lending store output) (error_number e) no_answer 0)
  unfolding step_of poll_event_call
  event_poll_refused e refused = poll_refused (call_poll_event time) p t store output _ _ refl begins e refused

  pub event_poll_performed : r ≡ Ok tt → {given : Answer} {p' : Parts} {t' : Tables} {store' output' used' : List ℕ}
      → Performs (call_poll_event time) p t (lending store output) 0 given p' t' (lending store' output') used'
      → Promised (call_poll_event time) p t (lending store output) (showing p' t' (lending store' output') 0 given 0)
  event_poll_performed accepted done = poll_performed (call_poll_event time) p t store output [] (event_poll_body time (state_of p t)) refl begins accepted done
