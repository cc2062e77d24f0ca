-- What is proved of the public send: its 5 of the list beside 5 of the store, and then the form for a valid state.
use Rattle.srt_protocol.specs.Errors.{Outcome}
use Rattle.std.specs.Prelude.{◌≡◌, Bool, true, false, ◌&&◌, ◌||◌, List, [], ◌∷◌, ℕ, length, Err, Ok}
use Rattle.std.proofs.Math.Path.{refl}
use Rattle.std.proofs.Common.{ap, ◌∙◌}
use Rattle.srt_protocol.specs.declared.error.Error.{Error}
use Rattle.srt_protocol.specs.Errors.{error_number}
use Rattle.srt_protocol.specs.Cells.{cell_size, cells_of}
use Rattle.srt_group_model.specs.State.{State, is_backup}
use Rattle.srt_group_model.specs.Legs.{largest_64}
use Rattle.srt_group_model.specs.Validity.{above, is_invalid}
use Rattle.srt_group_model.specs.Guards.{no_answer, Step, Check, ◌when◌, guard}
use Rattle.srt_group_model.specs.Calls.{store_unfit, list_unfit, no_free_cell, taken_cell, send_body, send}
use Rattle.srt_group_model.specs.Lent.{Lent, Call, call_send, step_of}
use Rattle.srt_group_model.specs.Laws.Reason.{by_test, or_no, or_yes_right}
use Rattle.srt_group_model.specs.Laws.Refusals.{guard_stops}
use Rattle.srt_group_traces.specs.Laws.Port.{performs_does}
use Rattle.srt_group.specs.Made.{parts_of}
use Rattle.srt_group_shown.specs.Tables.{Parts, Tables, state_of}
use Rattle.srt_group_shown.specs.Ready.{sending_into}
use Rattle.srt_group_refusals.specs.Begins.{are_short, BeginsStored}
use Rattle.srt_group_refusals.specs.Laws.Begins.{not_short}
use Rattle.srt_group_refusals.specs.Promised.{showing, Promised}
use Rattle.srt_group_refusals.specs.Laws.Promised.{does_refused, promised_short, promised_does, promised_refused}
use Rattle.srt_group_send.specs.declared.sending.GroupSent.{GroupSent}
use Rattle.srt_group_send.specs.Answers.{send_number, send_answer}
use Rattle.srt_group_send.specs.Sends.{Sends}

-- ---- the call

module _ (time : ℕ) (payload : List ℕ) (p : Parts) (t : Tables) (store list : List ℕ) where
  abbrev s : State
  s = state_of p t

  abbrev call : Call
  call = call_send time payload

  abbrev bytes : Lent
  bytes = sending_into store list

  abbrev after_6 : List Check
  after_6 =
      (2 when above largest_64 time) ∷ (4 when above cell_size (length payload))
      ∷ (30 when (is_backup p.core.mode && no_free_cell (cells_of (length store)) s)) ∷ []

  abbrev body : Step
  body = send_body (taken_cell (cells_of (length store)) s) time payload s

  abbrev guarded : Bool → Step
  guarded unfit = guard ((5 when unfit) ∷ (6 when is_invalid (cells_of (length store)) s) ∷ after_6) s body

  starts : step_of (length store) 0 (length list) call s ≡ guarded (store_unfit (length store) s || list_unfit (length list))
  unfolding step_of send
  starts = refl

  pub list_refused : list_unfit (length list) ≡ true → Promised call p t bytes (showing p t bytes 5 no_answer 0)
  list_refused unfit =
      by_test (are_short t)
      (λ short. promised_short call p t bytes _ short refl)
      (λ long.
      promised_does call p t bytes _ long
      (does_refused call p t bytes 5
      (starts
      ∙ guard_stops (5 when (store_unfit (length store) s || list_unfit (length list))) ((6 when is_invalid (cells_of (length store)) s) ∷ after_6) s body
      (or_yes_right (store_unfit (length store) s) _ unfit))))

  module _ {r : Outcome} {used : List ℕ} (begins : BeginsStored p t (length store) r used) where
    pub send_refused : list_unfit (length list) ≡ false → (e : Error) → r ≡ Err e
        → Promised call p t bytes (showing p t bytes (error_number e) no_answer 0)
    send_refused fits e refused =
        promised_refused call p t bytes begins after_6 body
        (starts ∙ ap guarded (ap (λ (b : Bool). store_unfit (length store) s || b) fits ∙ or_no (store_unfit (length store) s)))
        e refused

    -- what follows 5 and 6 is the form's
    pub send_performed : r ≡ Ok tt → {sent : GroupSent} {t' : Tables} {bytes' : Lent} {used' : List ℕ}
        → Sends time payload p t bytes sent t' bytes' used'
        → Promised call p t bytes
        (showing (parts_of sent.«record») t' bytes' (send_number sent.answer) (send_answer sent.answer) sent.rows)
    unfolding showing
    send_performed accepted {sent} {t'} {bytes'} done =
        let x = showing (parts_of sent.«record») t' bytes' (send_number sent.answer) (send_answer sent.answer) sent.rows in
        promised_does call p t bytes x (not_short begins accepted)
        (performs_does call bytes s x done.performs.code done.performs.answer done.performs.state done.performs.lent done.rows)
