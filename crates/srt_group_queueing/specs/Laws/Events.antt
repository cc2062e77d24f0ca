-- An event at the end of a leg's queue is document 01's.
use Rattle.srt_protocol.specs.Errors.{Outcome}
use Rattle.std.specs.Prelude.{◌≡◌, Bool, false, ◌||◌, ℕ, eqb, Err, Ok, Some}
use Rattle.std.proofs.Math.Path.{refl}
use Rattle.std.proofs.Common.{ap, sym, subst, ◌∙◌, arith}
use mathlib.Core.List.{List, [], ◌∷◌}
use Rattle.srt_protocol.specs.declared.error.Error.TheVariants.{QueueFull}
use Rattle.srt_protocol.specs.Errors.{refuse_if, if_accepted}
use Rattle.srt_group_model.specs.Tools.{such_that, each}
use Rattle.srt_group_model.specs.Laws.Reason.{if_elim, by_test, not_both, or_left, or_right}
use Rattle.srt_group_model.specs.State.{Member, State}
use Rattle.srt_group_model.specs.Legs.{largest_32}
use Rattle.srt_group_model.specs.Members.{find}
use Rattle.srt_group_model.specs.Cells.{is_data, queue_cells}
use Rattle.srt_group_model.specs.Sound.{occurs}
use Rattle.srt_group_model.specs.Validity.{above}
use Rattle.srt_group_model.specs.Guards.{no_answer, accept, ◌when◌, guard}
use Rattle.srt_group_model.specs.Calls.{breaks_rule, queue_full, enqueue, lifecycle_event, change_member, queue_event}
use Rattle.srt_group_model.specs.Lent.{call_queue_event, step_of}
use Rattle.srt_group_model.specs.Laws.InHand.{enqueued}
use Rattle.srt_group_model.specs.declared.Event.{Event}
use Rattle.srt_connection_members.specs.Members.{member_at, PushedAt}
use Rattle.srt_connection_members.specs.Laws.Members.{changed_by}
use Rattle.srt_group_shown.specs.Tables.{Parts, Tables, state_of}
use Rattle.srt_group_shown.specs.Steps.{Unbroken}
use Rattle.srt_group_queueing.specs.Laws.OneMember.{OneMember, member_checks, Ends, member_refused, member_changed}

module _ (id kind reason : ℕ) where
  abbrev event_unfit : Bool
  event_unfit = above largest_32 id || (eqb kind 0 || (above 3 kind || above largest_32 reason))

  pub step_is : (store output list : ℕ) (s : State)
      → step_of store output list (call_queue_event id kind reason) s
      ≡ guard ((6 when breaks_rule s) ∷ member_checks event_unfit id QueueFull queue_full s) s (accept (change_member id (enqueue (lifecycle_event kind reason)) s) no_answer)
  unfolding step_of queue_event
  step_is store output list s = refl

  -- an event that is no data names no cell
  pub none_named : eqb kind 0 ≡ false → (n : ℕ) (m : Member) → occurs n (queue_cells (enqueue (lifecycle_event kind reason) m)) ≡ occurs n (queue_cells m)
  unfolding such_that each occurs
  none_named some_kind n m =
      let none_there : occurs n (each (λ (x : Event). x.content.cell) (such_that is_data (lifecycle_event kind reason ∷ []))) ≡ 0 =
      if_elim (λ (l : List Event). occurs n (each (λ (x : Event). x.content.cell) l) ≡ 0) (eqb kind 0) (lifecycle_event kind reason ∷ []) []
      (λ e. not_both e some_kind) (λ e. refl)
      in
      omega (arith, enqueued n (lifecycle_event kind reason) m, none_there)

  abbrev pub event_call : OneMember (call_queue_event id kind reason)
  event_call =
      record {
        id = id;
        unfit = event_unfit;
        error = QueueFull;
        refuses = queue_full;
        does = enqueue (lifecycle_event kind reason);
        is = step_is;
        cells =
            λ fit. none_named (or_left (eqb kind 0) (above 3 kind || above largest_32 reason) (or_right (above largest_32 id) _ fit));
      }

  -- pushed at the end of the queue that `find` answered
  pub event_pushed : (p : Parts) (t : Tables) (unbroken : Unbroken p t) → event_unfit ≡ false
      → (i : ℕ) → Some i ≡ find id (state_of p t).members
      → (event : Event) (o : Outcome) (members' : List ℕ) → event ≡ lifecycle_event kind reason → PushedAt i event t.members o members'
      → Ends event_call p t unbroken o members'
  event_pushed p t unbroken fit i at event o members' made pushed =
      by_test (queue_full m)
      (λ full.
      let is : o ≡ Err QueueFull = pushed.outcome ∙ ap (λ (b : Bool). refuse_if b QueueFull (Ok tt)) full in
      subst (λ (x : Outcome). Ends event_call p t unbroken x members') (sym is)
      (member_refused event_call p t unbroken fit i at members' full
      (changed_by i t.members members' (λ x. x) pushed.changed (ap (λ (x : Outcome). if_accepted x (enqueue event m) m) is))))
      (λ room.
      let is : o ≡ (Ok tt) = pushed.outcome ∙ ap (λ (b : Bool). refuse_if b QueueFull (Ok tt)) room in
      subst (λ (x : Outcome). Ends event_call p t unbroken x members') (sym is)
      (member_changed event_call p t unbroken fit i at members' room
      (changed_by i t.members members' (enqueue (lifecycle_event kind reason)) pushed.changed
      (ap (λ (x : Outcome). if_accepted x (enqueue event m) m) is ∙ ap (λ (e : Event). enqueue e m) made))))
    where
      m : Member
      m = member_at t.members i
