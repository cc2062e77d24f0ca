-- `members` in words: the answer stands in the lent list, and its word says how many rows were filled.
use Rattle.std.specs.Prelude.{◌≡◌, List, [], ◌∷◌, ℕ, ◌/◌, ltb, length}
use Rattle.srt_protocol.specs.Cells.{overwritten}
use Rattle.srt_group_model.specs.Lent.{look_members, call_look}
use Rattle.srt_group_model.specs.Answers.{values_of}
use Rattle.srt_group_looks.specs.Looks.{member_row_size, members_list_size}
use Rattle.srt_group_words.specs.Words.{Says, Words, PromisedWords}

-- how many rows the answer's values fill; 0 where the call is refused
unfoldable pub listed_words : Says
listed_words given rows = length (values_of given) / member_row_size ∷ []

-- A list shorter than 64 rows is 5 as a short table is. The answer's values are written over the list's first words, a row for each member,
-- and the others stay; a refused call has none.
pub record ListsWords (before : Words) (code : ℕ) (after : Words) (list list' : List ℕ) : Type 0 where
  pub promised : PromisedWords (call_look look_members) listed_words (ltb (length list) members_list_size) before code after
  pub listed : list' ≡ overwritten 0 (values_of promised.given) list
