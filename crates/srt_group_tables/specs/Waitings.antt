-- The waiting events as rows of three words. The list of the first `count` rows is the model's list of waiting events.
use Rattle.std.specs.Prelude.{◌≡◌, List, [], ◌∷◌, ℕ, ◌*◌, length, get_or}
use Rattle.word_rows.specs.Tab.{tab}
use Rattle.word_rows.specs.Rows.{row_at}
use Rattle.srt_group_model.specs.declared.Waiting.{Waiting}
use Rattle.srt_group_model.specs.Validity.{max_waiting}

-- the words of an event's row, and of the table: a row for each event that may wait
abbrev pub waiting_row_size : ℕ
waiting_row_size = 3

abbrev pub waiting_size : ℕ
waiting_size = max_waiting * waiting_row_size

unfoldable pub waiting_of : List ℕ → Waiting
waiting_of row = record { member = get_or row 0 0; kind = get_or row 1 0; reason = get_or row 2 0 }

unfoldable pub waiting_words : Waiting → List ℕ
waiting_words w = w.member ∷ w.kind ∷ w.reason ∷ []

unfoldable pub waiting_at : List ℕ → ℕ → Waiting
waiting_at words i = waiting_of (row_at waiting_row_size words i)

-- the events of the first `count` rows
abbrev pub waitings : ℕ → List ℕ → List Waiting
waitings count words = tab count (waiting_at words)

-- what a table of so many words holds after a call
pub record HoldsWaiting (long : ℕ) (after : List ℕ) (count : ℕ) (ws : List Waiting) : Type 0 where
  pub length_kept : length after ≡ long
  pub is : waitings count after ≡ ws
