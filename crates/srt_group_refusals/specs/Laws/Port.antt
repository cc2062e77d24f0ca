-- Each public call gives a step of the port's list: from its promise (`Promised`, `PromisedRow`) to a past that is one step longer. So
-- demand 3 over what code shows (srt_group_traces, PortTheorem) stands over any list of public calls by one citation of its
-- `performed`; `every_skip_right` and `never_6` below are such citations.
use Rattle.std.specs.Prelude.{◌≡◌, Bool, false, ◌||◌, List, [], ◌∷◌, ◌++◌, ℕ}
use Rattle.std.proofs.Math.Path.{refl}
use Rattle.std.proofs.Common.{sym, ap, ◌∙◌, subst}
use Rattle.std.proofs.Math.Bool.{true}
use Rattle.srt_group_model.specs.State.{State, Making}
use Rattle.srt_group_model.specs.Calls.{new}
use Rattle.srt_group_model.specs.Guards.{Answer, no_answer}
use Rattle.srt_group_model.specs.Lent.{Lent, Call}
use Rattle.srt_group_traces.specs.Statement.{Asked}
use Rattle.srt_group_traces.specs.Port.{Shown, Taken, shown_of, Promise, step_made, shows_new, all_shown, last_shown, calls_of, SkipsShown}
use Rattle.srt_group_traces.specs.OwnCalls.{Careful, NoneShows6}
use Rattle.srt_group_traces.specs.Laws.Port.{promised_step, new_begins, last_of}
use Rattle.srt_group_traces.specs.Laws.PortTheorem.{port_theorem}
use Rattle.srt_group_traces.specs.Laws.OwnCalls.{own_calls}
use Rattle.srt_group_shown.specs.Tables.{Parts, Tables, state_of}
use Rattle.srt_group_refusals.specs.Begins.{are_short}
use Rattle.srt_group_refusals.specs.Promised.{asking, showing, nothing_lent, Promised, PromisedRow, row_short}
use Rattle.srt_group_refusals.specs.Past.{Past}

pub step_shows : (short : Bool) (asked : Asked) (x : Shown) → (shown_of (step_made short asked x)).state ≡ x.state
step_shows true asked x = refl
step_shows false asked x = refl

-- `new`: what it shows where it has made a group (srt_group, `PromisedNew`) is a past without a step, over any tables
pub new_is_past : (making : Making) (p : Parts) (t : Tables) (bytes : Lent) (s : State)
    → record { state = state_of p t; lent = bytes; code = 0; answer = no_answer; rows = 0 } ≡ shows_new making bytes s
    → Past making [] p t
unfolding last_shown all_shown
new_is_past making p t bytes s is =
    let accepted = sym (ap (λ (x : Shown). x.code) is) in
    record {
      accepted = accepted;
      performed = tt;
      stands = sym (ap (λ (x : Shown). x.state) is ∙ (new_begins making bytes s).0 accepted);
    }

-- a call from a past, and what it shows: the record and the tables that it leaves, the bytes, the code, the answer, the rows
module _ {making : Making} {steps : List Taken} {p : Parts} {t : Tables} (past : Past making steps p t) where
  module _ (p' : Parts) (t' : Tables) (bytes' : Lent) (code : ℕ) (answer : Answer) (rows : ℕ) where
    abbrev x : Shown
    x = showing p' t' bytes' code answer rows

    one_step_longer : (short : Bool) (asked : Asked) → Promise short asked (state_of p t) x
        → Past making (steps ++ (step_made short asked x ∷ [])) p' t'
    unfolding showing
    one_step_longer short asked promise =
        record {
          accepted = past.accepted;
          performed =
              promised_step (new making) steps past.performed short asked x
              (subst (λ (s : State). Promise short asked s x) (sym past.stands) promise);
          stands = last_of (new making) steps (step_made short asked x) ∙ step_shows short asked x;
        }

    -- every public call that promises `Promised`: polls, queueing, readings, broken marks, the refresh, `disconnect`, `remove_member`, looks
    pub promised_is_step : {call : Call} {bytes : Lent} → Promised call p t bytes x
        → Past making (steps ++ (step_made (are_short t) (asking call bytes) x ∷ [])) p' t'
    promised_is_step {call} {bytes} promised = one_step_longer (are_short t) (asking call bytes) promised.holds

    -- `add_member` and `remove_member_connection`, which are lent a row: a short one is refused as a short table is
    pub promised_row_is_step : {call : Call} {row : List ℕ} → PromisedRow call p t row x
        → Past making (steps ++ (step_made (row_short row || are_short t) (asking call nothing_lent) x ∷ [])) p' t'
    promised_row_is_step {call} {row} promised =
        one_step_longer (row_short row || are_short t) (asking call nothing_lent) promised.holds

  -- `members`, over a list with its rows, promises `Promised` (srt_group_looks, `Listed`). A call that is refused for another short slice, as
  -- it is over a shorter list, is a step too: 5, and nothing has changed.
  pub short_is_step : (call : Call) (bytes : Lent)
      → Past making (steps ++ (step_made true (asking call bytes) (showing p t bytes 5 no_answer 0) ∷ [])) p t
  unfolding showing
  short_is_step call bytes = one_step_longer p t bytes 5 no_answer 0 true (asking call bytes) refl

  -- ---- what follows of it, by one citation each: every call that raised the skipped count made a right skip, and no call of a careful
  -- host has shown 6

  pub every_skip_right : SkipsShown (new making) steps
  every_skip_right = port_theorem.skips making steps past.performed

  pub never_6 : Careful making (calls_of steps) → NoneShows6 (all_shown steps)
  never_6 careful = own_calls.never_shown making steps past.accepted past.performed careful
