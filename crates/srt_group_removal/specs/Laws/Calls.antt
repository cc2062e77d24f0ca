-- The calls with their refusals: how each is refused at its start, and what it promises after that.
use Rattle.srt_protocol.specs.Errors.{Outcome}
use Rattle.std.specs.Prelude.{◌≡◌, Bool, List, ℕ, ◌≤◌, length, Err, Ok}
use Rattle.std.proofs.Math.Path.{refl, ap}
use Rattle.std.proofs.Math.Bool.{true, false}
use Rattle.std.proofs.Common.{arith}
use Rattle.srt_protocol.specs.declared.error.Error.{Error}
use Rattle.srt_protocol.specs.Errors.{outcome_number}
use Rattle.srt_group_model.specs.Guards.{Answer}
use Rattle.srt_group_model.specs.Calls.{remove_body, remove_member_connection}
use Rattle.srt_group_model.specs.Lent.{call_remove_member_connection, step_of}
use Rattle.srt_group_model.specs.declared.Core.{Core}
use Rattle.srt_connection_queue.specs.Rows.{row_size}
use Rattle.srt_group_traces.specs.Statement.{do_call}
use Rattle.srt_group_traces.specs.Port.{Shown, Promise}
use Rattle.srt_group_shown.specs.Tables.{Parts, parts, Tables, tables, state_of}
use Rattle.srt_group_refusals.specs.Begins.{are_short, begun}
use Rattle.srt_group_refusals.specs.Laws.Begins.{begun_unbroken}
use Rattle.srt_group_refusals.specs.Promised.{nothing_lent, asking, showing, answered, PromisedRow}
use Rattle.srt_group_refusals.specs.Laws.Promised.{promised_refused_6, promised_steps, over_row, without_row}
use Rattle.srt_group.specs.declared.Answered.{Answered}
use Rattle.srt_group_removal.specs.Connection.{given_back, StepsRemoval, answer_dropped, PromisedDropping}
use Rattle.srt_group_removal.specs.Laws.Connection.{none_delivered}

module _ (id : ℕ) (p : Parts) (t : Tables) (row : List ℕ) (long : row_size ≤ length row) {r : Outcome} (begins : r ≡ begun p t) where
  pub removal_refused : (e : Error) → r ≡ Err e → {p' : Parts} → p' ≡ p → {answer : Outcome} → answer ≡ Err e
      → PromisedRow (call_remove_member_connection id) p t row (showing p' t nothing_lent (outcome_number answer) (given_back answer row) 0)
  unfolding step_of remove_member_connection
  removal_refused e refused kept told =
      rw (kept, told)
      (over_row (call_remove_member_connection id) p t row long
      (promised_refused_6 (call_remove_member_connection id) p t nothing_lent begins _ (remove_body id (state_of p t)) refl e refused))

  pub removal_promised : r ≡ Ok tt → (answer : Answered Core (Unit {0})) (ms' ps' row' : List ℕ)
      → StepsRemoval id p.core t.members t.pending answer ms' ps' row'
      → PromisedRow (call_remove_member_connection id) p t row
      (showing (parts p.identity answer.«record» p.sending p.ring) (tables ms' ps' t.waiting t.history t.sources) nothing_lent
      (outcome_number answer.answer) (given_back answer.answer row') 0)
  removal_promised accepted answer ms' ps' row' steps =
      over_row (call_remove_member_connection id) p t row long
      (promised_steps (call_remove_member_connection id) p t nothing_lent begins accepted (none_delivered answer.answer row')
      (steps.over p.identity p.sending p.ring t.waiting t.history t.sources (begun_unbroken p t begins accepted)))

-- ---- the leg is dropped

module _ (id : ℕ) (p : Parts) (t : Tables) where
  -- what the two promise, with an outcome, from what is given
  abbrev Holds : (short : Bool) (p' : Parts) (t' : Tables) → Outcome → Answer → Type 0
  Holds short p' t' o given =
      Promise short (asking (call_remove_member_connection id) nothing_lent) (state_of p t)
      (showing p' t' nothing_lent (outcome_number o) (answered o given) 0)

  dropped : (short : Bool) (p' : Parts) (t' : Tables) (o : Outcome) (given : Answer) → Holds short p' t' o given
      → Holds short p' t' o (answer_dropped id nothing_lent (state_of p t))
  unfolding do_call showing
  dropped short p' t' (Err e) given holds = holds
  dropped true p' t' (Ok tt) given holds = absurd (omega (arith, ap (λ (x : Shown). x.code) holds))
  dropped false p' t' (Ok tt) given does =
      record { code = does.code; answer = refl; state = does.state; lent = does.lent; rows = does.rows }

  pub leg_dropped : (row row' : List ℕ) (p' : Parts) (t' : Tables) (o : Outcome) → row_size ≤ length row
      → PromisedRow (call_remove_member_connection id) p t row (showing p' t' nothing_lent (outcome_number o) (given_back o row') 0)
      → PromisedDropping id p t o p' t'
  leg_dropped row row' p' t' o long promised =
      record { holds = dropped (are_short t) p' t' o _ (without_row (call_remove_member_connection id) p t row long promised).holds }
