-- A look in words, whatever it gives.
use Rattle.std.specs.Prelude.{◌≡◌, List, ℕ, Result}
use Rattle.srt_protocol.specs.declared.error.Error.{Error}
use Rattle.srt_group_model.specs.Guards.{Answer}
use Rattle.srt_group_shown.specs.Tables.{Tables}
use Rattle.srt_group_refusals.specs.declared.refusals.LentGroup.{LentGroup}
use Rattle.srt_group_refusals.specs.LentGroup.{tables_of}
use Rattle.srt_group_looks.specs.Looks.{given_code, given_answer}
use Rattle.srt_group_words.specs.Record.{group_of}
use Rattle.srt_group_words.specs.Words.{in_words, Said}

-- the answer's row says what the look gives of the group that the words show
pub record Shows {A : Type 0} (size : ℕ) (says : A → Answer) (gives : LentGroup → Result A Error → Type 0) (w : List ℕ) (t : Tables)
    (answer : List ℕ) (code : ℕ) (answer' : List ℕ) : Type 0 where
  pub lent : LentGroup
  pub group : lent.group ≡ group_of w
  pub tables : tables_of lent ≡ t
  pub given : Result A Error
  pub gave : gives lent given
  pub said : Said (given_code given) (in_words size (given_answer says given) 0) code answer answer'

-- the record or the answer's row has too few words: 5, and nothing is said
pub record SaysNothing (answer : List ℕ) (code : ℕ) (answer' : List ℕ) : Type 0 where
  pub refused : code ≡ 5
  pub same : answer' ≡ answer
