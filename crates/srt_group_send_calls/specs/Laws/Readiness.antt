-- What is proved of the public readiness tests: 5 and 6, and then what follows them.
use Rattle.srt_protocol.specs.Errors.{Outcome}
use Rattle.std.specs.Prelude.{◌≡◌, List, ℕ, Err, None, Ok, Option, Some}
use Rattle.std.proofs.Math.Path.{refl}
use Rattle.srt_protocol.specs.declared.error.Error.{Error}
use Rattle.srt_protocol.specs.Errors.{error_number}
use Rattle.srt_group_model.specs.Guards.{no_answer, shown, truth}
use Rattle.srt_group_model.specs.Calls.{cells_given, can_send_call, can_send_with_pacing_call}
use Rattle.srt_group_model.specs.Lent.{Call, call_can_send, call_can_send_with_pacing, delivered_by, step_of}
use Rattle.srt_group_model.specs.Laws.Valid.{valid_of, fit_of}
use Rattle.srt_group.specs.declared.Group.{Group}
use Rattle.srt_group.specs.Made.{parts_of}
use Rattle.srt_group_shown.specs.Tables.{Parts, Tables, tables, state_of}
use Rattle.srt_group_shown.specs.Steps.{Unbroken}
use Rattle.srt_group_shown.specs.Laws.Steps.{rows_unbroken}
use Rattle.srt_group_refusals.specs.Begins.{begun}
use Rattle.srt_group_refusals.specs.Laws.Begins.{begun_unbroken}
use Rattle.srt_group_refusals.specs.Promised.{nothing_lent, showing, Promised}
use Rattle.srt_group_refusals.specs.Laws.Promised.{promised_refused_6, promised_steps}
use Rattle.srt_group_send.specs.declared.readiness.Readiness.{Readiness}
use Rattle.srt_group_send.specs.Readiness.{call_paced, Testable, Tests}
use Rattle.srt_group_send.specs.Laws.Readiness.{tests_steps}

-- what the tests rely on
pub testable_unbroken : {g : Group} {members pending waiting history sources : List ℕ}
    → Unbroken (parts_of g) (tables members pending waiting history sources) → Testable g members history
testable_unbroken {g} {members} {pending} {waiting} {history} {sources} unbroken =
    let s = state_of (parts_of g) (tables members pending waiting history sources) in
    let fit = fit_of (cells_given s) s (valid_of (cells_given s) s unbroken.valid) in
    record {
      rows = rows_unbroken unbroken;
      history_long = unbroken.long.history;
      pending = pending;
      waiting = waiting;
      sources = sources;
      fit = fit;
    }

module _ (g : Group) (members pending waiting history sources : List ℕ) {o : Outcome}
    (begins : o ≡ begun (parts_of g) (tables members pending waiting history sources)) where
  abbrev p : Parts
  p = parts_of g

  abbrev t : Tables
  t = tables members pending waiting history sources

  pub can_send_refused : (e : Error) → o ≡ Err e
      → Promised call_can_send p t nothing_lent (showing p t nothing_lent (error_number e) no_answer 0)
  unfolding step_of can_send_call
  can_send_refused e refused = promised_refused_6 call_can_send p t nothing_lent begins _ _ refl e refused

  pub with_pacing_refused : (time : ℕ) (e : Error) → o ≡ Err e
      → Promised (call_can_send_with_pacing time) p t nothing_lent (showing p t nothing_lent (error_number e) no_answer 0)
  unfolding step_of can_send_with_pacing_call
  with_pacing_refused time e refused = promised_refused_6 (call_can_send_with_pacing time) p t nothing_lent begins _ _ refl e refused

  pub test_refused : (pacing : Option ℕ) (e : Error) → o ≡ Err e
      → Promised (call_paced pacing) p t nothing_lent (showing p t nothing_lent (error_number e) no_answer 0)
  test_refused None = can_send_refused
  test_refused (Some time) = with_pacing_refused time

  module _ (accepted : o ≡ Ok tt) where
    pub can_test : Testable g members history
    can_test = testable_unbroken (begun_unbroken p t begins accepted)

    pub tested : (call : Call) {answer : Readiness} {used members' used' : List ℕ} → Tests call g members history used answer members' used'
        → Promised call p t nothing_lent
        (showing (parts_of answer.«record») (tables members' pending waiting history sources) nothing_lent 0 (shown (truth answer.ready)) 0)
    unfolding delivered_by
    tested call tests =
        promised_steps call p t nothing_lent begins accepted refl (tests_steps tests pending waiting sources (begun_unbroken p t begins accepted))
