-- Each exported public call gives a step of demand 3's list, as the calls by value do (srt_group_refusals, laws/Port): from its promise in
-- words to a past that is one step longer. So `every_skip_right` and `never_6` hold of the words.
use Rattle.std.proofs.Common.{sym, subst, ◌∙◌}
use Rattle.std.specs.Prelude.{Bool, ◌||◌, List, [], ◌∷◌, ◌++◌, ℕ}
use Rattle.srt_group_model.specs.State.{State, Making}
use Rattle.srt_group_model.specs.Calls.{new}
use Rattle.srt_group_model.specs.Lent.{Call}
use Rattle.srt_group_traces.specs.Port.{Taken, Promise, step_made}
use Rattle.srt_group_traces.specs.Laws.Port.{promised_step, last_of}
use Rattle.srt_group_refusals.specs.Laws.Port.{step_shows}
use Rattle.srt_group_refusals.specs.Begins.{are_short}
use Rattle.srt_group_refusals.specs.Promised.{asking, showing}
use Rattle.srt_group_refusals.specs.Past.{Past}
use Rattle.srt_group_words.specs.Words.{Says, Words, parts_in, are_few, PromisedWords}

-- the step that a call in words makes
abbrev pub step_in_words : {call : Call} {says : Says} {other : Bool} {before : Words} {code : ℕ} {after : Words}
    → PromisedWords call says other before code after → Taken
step_in_words {call} {says} {other} {before} {code} {after} promised =
    step_made ((are_few says before || other) || are_short before.tables) (asking call before.bytes)
    (showing (parts_in after) after.tables after.bytes code promised.given promised.rows)

pub words_are_step : {making : Making} {steps : List Taken} {call : Call} {says : Says} {other : Bool} {before : Words} {code : ℕ} {after : Words}
    → Past making steps (parts_in before) before.tables → (promised : PromisedWords call says other before code after)
    → Past making (steps ++ (step_in_words promised ∷ [])) (parts_in after) after.tables
unfolding showing
words_are_step {making} {steps} {call} {says} {other} {before} {code} {after} past promised =
    let short = (are_few says before || other) || are_short before.tables in
    let asked = asking call before.bytes in
    let x = showing (parts_in after) after.tables after.bytes code promised.given promised.rows in
    record {
      accepted = past.accepted;
      performed =
          promised_step (new making) steps past.performed short asked x
          (subst (λ (s : State). Promise short asked s x) (sym past.stands) promised.holds);
      stands = last_of (new making) steps (step_made short asked x) ∙ step_shows short asked x;
    }
