-- What is proved of the definitions in specs/Waitings.antt, with what the proofs need.
use Rattle.std.specs.Prelude.{◌≡◌, refl, List, [], ◌∷◌, ◌++◌, ℕ, ◌+◌, ◌-◌, ◌*◌, ◌≤◌, ◌<◌, length, drop}
use Rattle.std.proofs.Common.{ap, ◌∙◌, arith}
use Rattle.word_rows.specs.Tab.{removed}
use Rattle.word_rows.specs.Rows.{Closed}
use Rattle.word_rows.specs.Laws.Rows.{table_push, table_removed}
use Rattle.srt_protocol.specs.Cells.{overwritten}
use Rattle.srt_protocol.specs.Laws.CellLaws.{overwritten_length}
use Rattle.srt_group_model.specs.declared.Waiting.{Waiting}
use Rattle.srt_group_model.specs.Validity.{max_waiting}
use Rattle.srt_group_tables.specs.Waitings.{waiting_row_size, waiting_size, waiting_of, waiting_words, waiting_at, waitings, HoldsWaiting}

-- ---- laws

pub three_words : (w : Waiting) → length (waiting_words w) ≡ waiting_row_size
unfolding waiting_words
three_words w = refl

waiting_back : (w : Waiting) → waiting_of (waiting_words w) ≡ w
unfolding waiting_of waiting_words
waiting_back w = refl

pub waiting_pushed : (words : List ℕ) (count : ℕ) (w : Waiting) → waiting_size ≤ length words → count < max_waiting
    → HoldsWaiting (length words) (overwritten (count * waiting_row_size) (waiting_words w) words) (count + 1) (waitings count words ++ (w ∷ []))
unfolding waiting_at
waiting_pushed words count w enough room =
    record {
      length_kept = overwritten_length (count * waiting_row_size) (waiting_words w) words (omega (arith, three_words w));
      is =
          table_push 3 waiting_of words (waiting_words w) count (omega arith) (three_words w)
          ∙ ap (λ (x : Waiting). waitings count words ++ (x ∷ [])) (waiting_back w);
    }

pub waiting_popped : (words closed : List ℕ) (count : ℕ) → waiting_size ≤ length words → 0 < count → count ≤ max_waiting
    → Closed 3 words 0 (count * waiting_row_size) closed → HoldsWaiting (length words) closed (count - 1) (drop 1 (waitings count words))
unfolding waiting_at removed
waiting_popped words closed count enough some most gap =
    record { length_kept = gap.long; is = table_removed 3 waiting_of words closed count 0 (omega arith) some gap }
