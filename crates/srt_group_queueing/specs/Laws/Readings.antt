-- A reading of a leg is document 01's.
use Rattle.std.specs.Prelude.{◌≡◌, Bool, true, false, ◌||◌, List, ◌∷◌, ℕ, Err, Ok, Some}
use Rattle.std.proofs.Math.Path.{refl}
use Rattle.std.proofs.Common.{ap, sym, ◌∙◌}
use Rattle.srt_protocol.specs.declared.error.Error.TheVariants.{OutOfTurn}
use Rattle.srt_group_model.specs.State.{Member, State, with_leg, on_leg}
use Rattle.srt_group_model.specs.Legs.{goes_back, largest_32}
use Rattle.srt_group_model.specs.Members.{find}
use Rattle.srt_group_model.specs.Cells.{queue_cells}
use Rattle.srt_group_model.specs.Sound.{occurs}
use Rattle.srt_group_model.specs.Validity.{above}
use Rattle.srt_group_model.specs.Guards.{no_answer, accept, ◌when◌, guard}
use Rattle.srt_group_model.specs.Calls.{breaks_rule, change_member, reading_out_of_range, read_field, read_leg}
use Rattle.srt_group_model.specs.Lent.{call_read_leg, step_of}
use Rattle.srt_group_model.specs.declared.Leg.{Leg}
use Rattle.srt_connection_members.specs.Members.{member_at, Changed}
use Rattle.srt_connection_members.specs.Laws.Members.{leg_changed, unchanged}
use Rattle.srt_group_shown.specs.Tables.{Parts, Tables, state_of}
use Rattle.srt_group_shown.specs.Steps.{Unbroken}
use Rattle.srt_group_queueing.specs.Laws.OneMember.{OneMember, member_checks, Ends, member_refused, member_changed}

module _ (id field n : ℕ) where
  abbrev reading_unfit : Bool
  reading_unfit = above largest_32 id || reading_out_of_range field n

  pub step_is : (store output list : ℕ) (s : State)
      → step_of store output list (call_read_leg id field n) s
      ≡ guard ((6 when breaks_rule s) ∷ member_checks reading_unfit id OutOfTurn (λ m. goes_back field n m.leg) s) s (accept (change_member id (on_leg (read_field field n)) s) no_answer)
  unfolding step_of read_leg
  step_is store output list s = refl

  -- the queue stays
  pub same_queue : (k : ℕ) (m : Member) → occurs k (queue_cells (on_leg (read_field field n) m)) ≡ occurs k (queue_cells m)
  unfolding queue_cells
  same_queue k m = refl

  abbrev pub reading_call : OneMember (call_read_leg id field n)
  reading_call =
      record {
        id = id;
        unfit = reading_unfit;
        error = OutOfTurn;
        refuses = λ m. goes_back field n m.leg;
        does = on_leg (read_field field n);
        is = step_is;
        cells = λ fit. same_queue;
      }

  -- the leg of the member that `find` answered, and whether the number goes back on it
  module _ (p : Parts) (t : Tables) (unbroken : Unbroken p t) (fit : reading_unfit ≡ false)
      (i : ℕ) (at : Some i ≡ find id (state_of p t).members) (leg : Leg) (there : leg ≡ (member_at t.members i).leg) (back : Bool) (tested : back ≡ goes_back field n leg) where
    of_leg : goes_back field n (member_at t.members i).leg ≡ back
    of_leg = ap (goes_back field n) (sym there) ∙ sym tested

    pub reading_refused : back ≡ true → Ends reading_call p t unbroken (Err OutOfTurn) t.members
    reading_refused is =
        member_refused reading_call p t unbroken fit i at t.members (of_leg ∙ is) (unchanged i t.members)

    pub reading_put : back ≡ false → (read : Leg) (members' : List ℕ) → read ≡ read_field field n leg
        → Changed i (with_leg read) t.members members' → Ends reading_call p t unbroken (Ok tt) members'
    reading_put is read members' made changed =
        member_changed reading_call p t unbroken fit i at members' (of_leg ∙ is)
        (leg_changed (read_field field n) changed (made ∙ ap (read_field field n) there))
