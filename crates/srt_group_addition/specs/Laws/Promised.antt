-- What `add_member` promises, with its refusals: 6 of the group's own state, and then what follows.
use Rattle.srt_protocol.specs.Errors.{Outcome}
use Rattle.std.specs.Prelude.{◌≡◌, refl, Bool, true, false, ◌||◌, List, ◌∷◌, ℕ, ◌≤◌, length, Err, Ok}
use Rattle.srt_protocol.specs.declared.error.Error.{Error}
use Rattle.srt_protocol.specs.Errors.{error_number, outcome_number}
use Rattle.srt_group_model.specs.Tools.{if_true◌then◌else◌}
use Rattle.srt_group_model.specs.State.{State}
use Rattle.srt_group_model.specs.Guards.{no_answer, Step, Check, ◌when◌, guard}
use Rattle.srt_group_model.specs.Calls.{breaks_rule, add_body, add_member}
use Rattle.srt_group_model.specs.Lent.{step_of}
use Rattle.srt_group_model.specs.declared.Core.{Core}
use Rattle.srt_connection_queue.specs.Rows.{row_size}
use Rattle.srt_connection_members.specs.Members.{member_at}
use Rattle.srt_group_shown.specs.Tables.{Parts, parts, Tables, tables, state_of}
use Rattle.srt_group_shown.specs.Laws.Steps.{nothing_delivered}
use Rattle.srt_group_refusals.specs.Begins.{begun}
use Rattle.srt_group_refusals.specs.Laws.Begins.{begun_unbroken}
use Rattle.srt_group_refusals.specs.Promised.{nothing_lent, showing, PromisedRow}
use Rattle.srt_group_refusals.specs.Laws.Promised.{promised_refused_6, promised_steps, over_row}
use Rattle.srt_group_addition.specs.Handed.{call_of_row, StepsAdding}
use Rattle.srt_group.specs.declared.Answered.{Answered}

-- 6 of the group's own state, and then of the leg
apart : (a b : Bool) (cs : List Check) (s : State) (body : Step)
    → guard ((6 when (a || b)) ∷ cs) s body ≡ guard ((6 when a) ∷ (6 when b) ∷ cs) s body
unfolding guard if_true◌then◌else◌
apart true b cs s body = refl
apart false b cs s body = refl

module _ (id weight : ℕ) (row : List ℕ) (p : Parts) (t : Tables) (long : row_size ≤ length row) {r : Outcome} (begins : r ≡ begun p t) where
  pub addition_refused_6 : (e : Error) → r ≡ Err e
      → PromisedRow (call_of_row id weight row) p t row (showing p t nothing_lent (error_number e) no_answer 0)
  unfolding step_of add_member
  addition_refused_6 e refused =
      over_row (call_of_row id weight row) p t row long
      (promised_refused_6 (call_of_row id weight row) p t nothing_lent begins _ (add_body id weight (member_at row 0).leg (state_of p t))
      (apart (breaks_rule (state_of p t)) _ _ _ _) e refused)

  pub addition_promised : r ≡ Ok tt → (answer : Answered Core (Unit {0})) (members' : List ℕ)
      → StepsAdding (call_of_row id weight row) p.core p.sending t.members answer members'
      → PromisedRow (call_of_row id weight row) p t row
      (showing (parts p.identity answer.«record» p.sending p.ring) (tables members' t.pending t.waiting t.history t.sources) nothing_lent
      (outcome_number answer.answer) no_answer 0)
  addition_promised accepted answer members' steps =
      over_row (call_of_row id weight row) p t row long
      (promised_steps (call_of_row id weight row) p t nothing_lent begins accepted nothing_delivered
      (steps.over p.identity p.ring t.pending t.waiting t.history t.sources (begun_unbroken p t begins accepted)).steps)
