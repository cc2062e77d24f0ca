-- What is proved of the definitions in specs/Promised.antt, with what the proofs need.
use Rattle.srt_protocol.specs.Errors.{Outcome}
use Rattle.std.specs.Prelude.{◌≡◌, refl, Bool, true, false, ◌||◌, List, ◌∷◌, ℕ, ◌≤◌, ◌<◌, Err, None, Ok}
use Rattle.std.proofs.Math.Path.{sym, subst}
use Rattle.std.proofs.Common.{ap, ◌∙◌, lt-ltb, le-ltb}
use Rattle.std.proofs.Math.ListN.{length}
use Rattle.srt_protocol.specs.declared.error.Error.{Error}
use Rattle.srt_protocol.specs.Errors.{error_number}
use Rattle.srt_protocol.specs.Cells.{cells_of, overwritten}
use Rattle.srt_group_model.specs.State.{State}
use Rattle.srt_group_model.specs.Validity.{is_invalid}
use Rattle.srt_group_model.specs.Guards.{Answer, no_answer, Step, refuse, Check, ◌when◌, guard}
use Rattle.srt_group_model.specs.Calls.{store_unfit, breaks_rule}
use Rattle.srt_group_model.specs.Lent.{Lent, Call, takes, stored, delivered_by, written_out, list_rows, with_bytes, step_of, perform}
use Rattle.srt_group_model.specs.Laws.Refusals.{guard_stops, guard_goes_on}
use Rattle.srt_connection_queue.specs.Rows.{row_size}
use Rattle.srt_group_traces.specs.Statement.{do_call}
use Rattle.srt_group_traces.specs.Port.{Shown, Does, Promise}
use Rattle.srt_group_traces.specs.Laws.Port.{performs_does}
use Rattle.srt_group_traces.specs.Laws.Rows.{only_sends_fill_rows}
use Rattle.srt_group_shown.specs.Tables.{Parts, Tables, state_of}
use Rattle.srt_group_shown.specs.Ready.{Performs}
use Rattle.srt_group_shown.specs.Steps.{Steps}
use Rattle.srt_group_shown.specs.Laws.Steps.{left_bytes}
use Rattle.srt_group_refusals.specs.Begins.{are_short, begun, BeginsStored}
use Rattle.srt_group_refusals.specs.Laws.Begins.{begun_which, begun_long, not_short, which_refused}
use Rattle.srt_group_refusals.specs.Promised.{asking, showing, answering, Promised, Answers, nothing_lent, PromisedRow}

module _ (call : Call) (p : Parts) (t : Tables) (bytes : Lent) where
  abbrev s : State
  s = state_of p t

  abbrev step : Step
  step = step_of (length bytes.store) (length bytes.output) (length bytes.list) call s

  abbrev refused_with : ℕ → Shown
  refused_with code = showing p t bytes code no_answer 0

  pub does_refused : (code : ℕ) → step ≡ refuse code s → Does (asking call bytes) s (refused_with code)
  unfolding showing do_call perform with_bytes stored delivered_by written_out list_rows overwritten
  does_refused code is =
      record {
        code = sym (ap (λ (x : Step). x.code) is);
        answer = sym (ap (λ (x : Step). x.answer) is);
        state = sym (ap (λ (x : Step). x.state) is);
        lent = sym (ap (λ (x : Step). (with_bytes bytes x).lent) is);
        rows = sym (ap (λ (x : Step). length x.sends) is);
      }

  pub promised_short : (x : Shown) → are_short t ≡ true → x ≡ refused_with 5 → Promised call p t bytes x
  unfolding showing
  promised_short x short is = record { holds = subst (λ (b : Bool). Promise b (asking call bytes) s x) (sym short) is }

  pub promised_does : (x : Shown) → are_short t ≡ false → Does (asking call bytes) s x → Promised call p t bytes x
  promised_does x long does = record { holds = subst (λ (b : Bool). Promise b (asking call bytes) s x) (sym long) does }

  -- refused with a code of its definition
  refused_by : are_short t ≡ false → (code : ℕ) → step ≡ refuse code s → {number : ℕ} → number ≡ code
      → Promised call p t bytes (refused_with number)
  refused_by long code is same =
      subst (λ (n : ℕ). Promised call p t bytes (refused_with n)) (sym same) (promised_does (refused_with code) long (does_refused code is))

  -- ---- a call that is lent no store, whose definition begins with 6

  module _ {r : Outcome} (begins : r ≡ begun p t) where
    pub promised_refused_6 : (cs : List Check) (body : Step) → step ≡ guard ((6 when breaks_rule s) ∷ cs) s body
        → (e : Error) → r ≡ Err e → Promised call p t bytes (refused_with (error_number e))
    promised_refused_6 cs body is e refused =
        begun_which p t begins e refused
        (λ short five. promised_short (refused_with (error_number e)) short (ap refused_with five))
        (λ long broken six. refused_by long 6 (is ∙ guard_stops (6 when breaks_rule s) cs s body broken) six)

    -- what follows 5 and 6 is the definition's step
    pub promised_steps : r ≡ Ok tt → {number : ℕ} {given : Answer} {p' : Parts} {t' : Tables} → delivered_by given ≡ None
        → Steps call p t number given p' t' → Promised call p t bytes (showing p' t' bytes number given 0)
    unfolding showing do_call perform with_bytes
    promised_steps accepted {number} {given} {p'} {t'} no_packet steps =
        let left = steps.step (length bytes.store) (length bytes.output) (length bytes.list) in
        promised_does (showing p' t' bytes number given 0) (begun_long p t begins accepted)
        record {
          code = sym left.code;
          answer = sym left.answer;
          state = sym left.state;
          lent = left_bytes bytes step left no_packet;
          rows = sym (ap length left.sends);
        }

  -- ---- a call that is lent a store, whose definition begins with 5 and 6

  module _ {r : Outcome} {used : List ℕ} (begins : BeginsStored p t (length bytes.store) r used) where
    pub promised_refused : (cs : List Check) (body : Step)
        → step
        ≡ guard
        ((5 when store_unfit (length bytes.store) s) ∷ (6 when is_invalid (cells_of (length bytes.store)) s) ∷ cs) s body
        → (e : Error) → r ≡ Err e → Promised call p t bytes (refused_with (error_number e))
    promised_refused cs body is e refused =
        which_refused begins e refused
        (λ short five. promised_short (refused_with (error_number e)) short (ap refused_with five))
        (λ long unfit five. refused_by long 5 (is ∙ guard_stops (5 when store_unfit (length bytes.store) s) _ s body unfit) five)
        (λ long fits broken six.
        refused_by long 6
        (is ∙ guard_goes_on (5 when store_unfit (length bytes.store) s) _ s body fits
        ∙ guard_stops (6 when is_invalid (cells_of (length bytes.store)) s) cs s body broken)
        six)

    pub promised_performed : (takes call).list ≡ false → r ≡ Ok tt
        → {number : ℕ} {given : Answer} {p' : Parts} {t' : Tables} {bytes' : Lent} {used' : List ℕ}
        → Performs call p t bytes number given p' t' bytes' used' → Promised call p t bytes (showing p' t' bytes' number given 0)
    unfolding showing
    promised_performed no_list accepted {number} {given} {p'} {t'} {bytes'} done =
        promised_does (showing p' t' bytes' number given 0) (not_short begins accepted)
        (performs_does call bytes s (showing p' t' bytes' number given 0) done.code done.answer done.state done.lent
        (sym (only_sends_fill_rows call bytes s no_list)))

-- ---- an answer of another form

pub promised_answers : {call : Call} {p : Parts} {t : Tables} {bytes : Lent} {x : Shown} → Promised call p t bytes x
    → {number : ℕ} {answer : Answer} → Answers x.code x.answer number answer → Promised call p t bytes (answering number answer x)
promised_answers {call} {p} {t} {bytes} {x} promised same =
    record {
      holds =
          subst (λ (y : Shown). Promise (are_short t) (asking call bytes) (state_of p t) y)
          (λ i. answering (sym same.same_code i) (sym same.same_answer i) x) promised.holds;
    }

-- ---- a call that is lent a row too

module _ (call : Call) (p : Parts) (t : Tables) (row : List ℕ) where
  pub row_refused : length row < row_size → PromisedRow call p t row (showing p t nothing_lent 5 no_answer 0)
  unfolding showing
  row_refused short =
      record {
        holds =
            subst (λ (b : Bool). Promise (b || are_short t) (asking call nothing_lent) (state_of p t) (showing p t nothing_lent 5 no_answer 0))
            (sym (lt-ltb (length row) row_size short)) refl;
      }

  module _ (long : row_size ≤ length row) where
    pub over_row : {x : Shown} → Promised call p t nothing_lent x → PromisedRow call p t row x
    over_row {x} promised =
        record {
          holds =
              subst (λ (b : Bool). Promise (b || are_short t) (asking call nothing_lent) (state_of p t) x)
              (sym (le-ltb (length row) row_size long)) promised.holds;
        }

    pub without_row : {x : Shown} → PromisedRow call p t row x → Promised call p t nothing_lent x
    without_row {x} promised =
        record {
          holds =
              subst (λ (b : Bool). Promise (b || are_short t) (asking call nothing_lent) (state_of p t) x)
              (le-ltb (length row) row_size long) promised.holds;
        }
