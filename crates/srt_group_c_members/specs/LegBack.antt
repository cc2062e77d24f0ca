-- A leg that is given back in a lent row, with the call's code as a number.
use Rattle.std.specs.Prelude.{◌≡◌, Bool, true, false, List, ℕ, eqb}
use Rattle.srt_group_model.specs.Tools.{if_true◌then◌else◌}
use Rattle.srt_group_model.specs.Guards.{Answer, no_answer, leg_back}
use Rattle.srt_group_model.specs.Lent.{call_remove_member_connection}
use Rattle.srt_group_refusals.specs.Promised.{row_short}
use Rattle.srt_group_removal.specs.Connection.{leg_in, GivesBack}
use Rattle.srt_group_words.specs.Words.{silent, Words, Gives, PerformsGives}

-- the answer: accepted, the leg in the row
abbrev pub leg_given : (code : ℕ) → (row : List ℕ) → Answer
leg_given code row = if_true eqb code 0 then leg_back (leg_in row) else no_answer

-- accepted: a leg is given back in it; refused: it is as it was
abbrev pub RowBy : (accepted : Bool) → (row row' : List ℕ) → Type 0
RowBy true row row' = GivesBack (leg_in row') row row'
RowBy false row row' = row' ≡ row

pub record PromisedLegBack (id : ℕ) (before : Words) (code : ℕ) (after : Words) (old new : List ℕ) : Type 0 where
  pub gives : Gives (call_remove_member_connection id) silent (row_short old) before code after (leg_given code new)
  pub row : RowBy (eqb code 0) old new

pub record PerformsLegBack (id : ℕ) (before : Words) (code : ℕ) (after : Words) (used' old new : List ℕ) : Type 0 where
  pub gives : PerformsGives (call_remove_member_connection id) silent before code after used' (leg_given code new)
  pub row : RowBy (eqb code 0) old new
