-- The lent list of sends, as rows of five words: what rows are shown, and what noting sends does to it.
use Rattle.std.specs.Prelude.{◌≡◌, List, [], ◌∷◌, ℕ, ◌+◌, ◌*◌, length, get_or}
use Rattle.word_rows.specs.Tab.{tab}
use Rattle.word_rows.specs.Rows.{row_at}
use Rattle.srt_protocol.specs.Cells.{overwritten}
use Rattle.srt_group_model.specs.Sending.{sent_row_size, Sent}
use Rattle.srt_group_model.specs.Lent.{list_rows}

-- ---- definitions

abbrev pub sent_row : (leg sequence cell source time : ℕ) → Sent
sent_row leg sequence cell source time = record { leg = leg; sequence = sequence; cell = cell; source = source; time = time }

unfoldable pub sent_words : Sent → List ℕ
sent_words x = x.leg ∷ x.sequence ∷ x.cell ∷ x.source ∷ x.time ∷ []

unfoldable pub sent_of : List ℕ → Sent
sent_of row = sent_row (get_or row 0 0) (get_or row 1 0) (get_or row 2 0) (get_or row 3 0) (get_or row 4 0)

unfoldable pub sent_at : List ℕ → ℕ → Sent
sent_at words i = sent_of (row_at sent_row_size words i)

-- the sends of the first k rows
abbrev pub sent_rows : ℕ → List ℕ → List Sent
sent_rows k words = tab k (sent_at words)

-- the tables that a send moves: the members, and the list of sends
pub record SendTables : Type 0 where
  pub members : List ℕ
  pub list : List ℕ

abbrev pub send_tables : (members list : List ℕ) → SendTables
send_tables members list = record { members = members; list = list }

-- The sends xs were noted in a list whose first k rows are in use, so that the first `next` are. Nothing else is written.
pub record Wrote (k : ℕ) (xs : List Sent) (before : List ℕ) (next : ℕ) (after : List ℕ) : Type 0 where
  pub count : next ≡ k + length xs
  pub is : after ≡ overwritten (k * sent_row_size) (list_rows xs) before
