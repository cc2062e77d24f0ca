-- The calls that are lent no store and change one member, proved together.
use Rattle.srt_protocol.specs.Errors.{Outcome}
use Rattle.std.specs.Prelude.{◌≡◌, refl, Bool, true, false, ℕ, Err, None, Ok, Option, Result, Some}
use Rattle.std.specs.Option.{ok_or}
use Rattle.std.proofs.Common.{ap, ◌∙◌}
use Rattle.std.proofs.Math.Path.{sym, subst}
use mathlib.Core.List.{List, [], ◌∷◌}
use Rattle.srt_protocol.specs.declared.error.Error.{Error}
use Rattle.srt_protocol.specs.declared.error.Error.TheVariants.{OutOfRange, UnknownMember}
use Rattle.srt_protocol.specs.Errors.{error_number, outcome_number}
use Rattle.srt_group_model.specs.State.{Member, State, with_members}
use Rattle.srt_group_model.specs.Members.{find}
use Rattle.srt_group_model.specs.Cells.{queue_cells}
use Rattle.srt_group_model.specs.Sound.{occurs}
use Rattle.srt_group_model.specs.Guards.{no_answer, Step, refuse, accept, Check, ◌when◌, guard}
use Rattle.srt_group_model.specs.Laws.Refusals.{guard_stops, guard_goes_on}
use Rattle.srt_group_model.specs.Laws.Places.{change_nothing}
use Rattle.srt_group_model.specs.Laws.CellsMoved.{Keeps}
use Rattle.srt_group_model.specs.Calls.{breaks_rule, is_unknown, of_member, change_member}
use Rattle.srt_group_model.specs.Lent.{Call, step_of}
use Rattle.srt_connection_members.specs.Members.{member_at, Changed}
use Rattle.srt_group_shown.specs.Tables.{Parts, Tables, state_of}
use Rattle.srt_group_shown.specs.Steps.{Unbroken, StepsKeeping}
use Rattle.srt_group_shown.specs.Laws.Steps.{left_refused, left_accepted}
use Rattle.srt_group_shown.specs.Laws.Found.{with_table, long_with, is_nowhere, is_known, of_found, change_found, shown_changed, change_keeps, same_cells}

-- ---- an option that is answered as a refusal where it is none

module _ {A : Type 0} {r : Result A Error} where
  pub was_there : (o : Option A) (e : Error) {x : A} → r ≡ ok_or o e → r ≡ Ok x → Some x ≡ o
  was_there None e is accepted = cc (sym is ∙ accepted)
  was_there (Some y) e is accepted = cc (sym is ∙ accepted)

  pub was_none : (o : Option A) (e : Error) {e' : Error} → r ≡ ok_or o e → r ≡ Err e' → None ≡ o
  was_none None e is refused = refl
  was_none (Some y) e is refused = cc (sym is ∙ refused)

  pub which_error : (o : Option A) (e : Error) {e' : Error} → r ≡ ok_or o e → r ≡ Err e' → e ≡ e'
  which_error None e is refused = cc (sym is ∙ refused)
  which_error (Some y) e is refused = cc (sym is ∙ refused)

-- the index that a search over the rows gives, where a member has the id
pub index_found : (id : ℕ) {r : Result ℕ Error} (o : Option ℕ) (e : Error) {i : ℕ} {ms ns : List Member} → r ≡ ok_or o e → r ≡ Ok i → o ≡ find id ms → ms ≡ ns
    → Some i ≡ find id ns
index_found id o e is accepted searched shows = was_there o e is accepted ∙ searched ∙ ap (find id) shows

-- its checks after 6: 2, 3, and a code of the member's own
abbrev pub member_checks : (unfit : Bool) (id : ℕ) → Error → (Member → Bool) → State → List Check
member_checks unfit id error refuses s =
    (2 when unfit) ∷ (3 when is_unknown id s) ∷ (error_number error when of_member id refuses s) ∷ []

-- A call of that kind. What it accepts names the same cells as before.
pub record OneMember (call : Call) : Type 0 where
  pub id : ℕ
  pub unfit : Bool
  pub error : Error
  pub refuses : Member → Bool
  pub does : Member → Member
  pub is : (store output list : ℕ) (s : State)
      → step_of store output list call s
      ≡ guard ((6 when breaks_rule s) ∷ member_checks unfit id error refuses s) s (accept (change_member id does s) no_answer)
  pub cells : unfit ≡ false → (n : ℕ) (m : Member) → occurs n (queue_cells (does m)) ≡ occurs n (queue_cells m)

module _ {call : Call} (c : OneMember call) (p : Parts) (t : Tables) (unbroken : Unbroken p t) where
  abbrev before : State
  before = state_of p t

  -- what is left to show: the call with an outcome, over the members after it
  abbrev pub Ends : Outcome → (members' : List ℕ) → Type 0
  Ends o members' = StepsKeeping call p t (outcome_number o) no_answer p (with_table members' t)

  abbrev body : Step
  body = accept (change_member c.id c.does before) no_answer

  abbrev own_on : List Check
  own_on = (error_number c.error when of_member c.id c.refuses before) ∷ []

  abbrev 3_on : List Check
  3_on = (3 when is_unknown c.id before) ∷ own_on

  abbrev 2_on : List Check
  2_on = (2 when c.unfit) ∷ 3_on

  -- what the call is, whatever is lent
  abbrev Is : Step → Type 0
  Is x = (store output list : ℕ) → step_of store output list call before ≡ x

  starts : Is (guard 2_on before body)
  starts store output list =
      c.is store output list before ∙ guard_goes_on (6 when breaks_rule before) 2_on before body unbroken.valid

  refused : (o : Outcome) → Is (refuse (outcome_number o) before) → Ends o t.members
  refused o is =
      record {
        steps =
            record {
              step = λ store output list. left_refused (outcome_number o) before (is store output list) refl;
              long = unbroken.long;
            };
        keeps = same_cells before;
      }

  pub unfit_refused : c.unfit ≡ true → Ends (Err OutOfRange) t.members
  unfit_refused unfit =
      refused (Err OutOfRange)
      (λ store output list. starts store output list ∙ guard_stops (2 when c.unfit) 3_on before body unfit)

  module _ (fit : c.unfit ≡ false) where
    after_2 : Is (guard 3_on before body)
    after_2 store output list = starts store output list ∙ guard_goes_on (2 when c.unfit) 3_on before body fit

    pub unknown_refused : (o : Option ℕ) {r : Result ℕ Error} {e : Error} → o ≡ find c.id before.members → r ≡ ok_or o UnknownMember → r ≡ Err e
        → Ends (Err e) t.members
    unknown_refused o found is nowhere =
        subst (λ (x : Error). Ends (Err x) t.members) (which_error o UnknownMember is nowhere)
        (refused (Err UnknownMember)
        (λ store output list.
        after_2 store output list
        ∙ guard_stops (3 when is_unknown c.id before) own_on before body (is_nowhere c.id p t (was_none o UnknownMember is nowhere ∙ found))))

    module _ (i : ℕ) (at : Some i ≡ find c.id before.members) where
      after_3 : Is (guard own_on before body)
      after_3 store output list =
          after_2 store output list
          ∙ guard_goes_on (3 when is_unknown c.id before) own_on before body (is_known c.id p t i at)

      -- the member refuses: a table that shows the same
      pub member_refused : (members' : List ℕ) → c.refuses (member_at t.members i) ≡ true → Changed i (λ m. m) t.members members'
          → Ends (Err c.error) members'
      member_refused members' refuses same =
          let shows_same : state_of p (with_table members' t) ≡ before =
          shown_changed p t i (λ m. m) members' same ∙ ap (λ (ms : List Member). with_members ms before) (change_nothing i before.members)
          in
          record {
            steps =
                record {
                  step =
                      λ store output list.
                      left_refused (error_number c.error) before
                      (after_3 store output list
                      ∙ guard_stops (error_number c.error when of_member c.id c.refuses before) [] before body
                      (of_found c.id p t i at c.refuses ∙ refuses))
                      (sym shows_same);
                  long = long_with unbroken.long members' same.long;
                };
            keeps = subst (Keeps before) (sym shows_same) (same_cells before);
          }

      pub member_changed : (members' : List ℕ) → c.refuses (member_at t.members i) ≡ false → Changed i c.does t.members members'
          → Ends (Ok tt) members'
      unfolding guard
      member_changed members' passes changed =
          let there = change_found c.id p t i at c.does in
          let shows_it : state_of p (with_table members' t) ≡ change_member c.id c.does before =
          shown_changed p t i c.does members' changed ∙ sym there
          in
          record {
            steps =
                record {
                  step =
                      λ store output list.
                      left_accepted (change_member c.id c.does before) no_answer
                      (after_3 store output list
                      ∙ guard_goes_on (error_number c.error when of_member c.id c.refuses before) [] before body
                      (of_found c.id p t i at c.refuses ∙ passes))
                      (sym shows_it);
                  long = long_with unbroken.long members' changed.long;
                };
            keeps =
                subst (Keeps before) (sym (shown_changed p t i c.does members' changed)) (change_keeps i c.does before (c.cells fit));
          }
