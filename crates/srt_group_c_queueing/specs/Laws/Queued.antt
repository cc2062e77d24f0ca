-- `queue_data` in words.
use Rattle.srt_protocol.specs.Errors.{Outcome, error_number}
use Rattle.srt_protocol.specs.declared.error.Error.{Error}
use Rattle.std.specs.Prelude.{◌≡◌, refl, false, List, [], ℕ, ◌≤◌, length, Err}
use Rattle.srt_protocol.specs.Cells.{overwritten}
use Rattle.srt_group_model.specs.Guards.{no_answer}
use Rattle.srt_group_model.specs.Lent.{call_queue_data}
use Rattle.srt_group_model.specs.declared.Data.{Data}
use Rattle.srt_group_shown.specs.Tables.{Tables}
use Rattle.srt_group_shown.specs.Ready.{storing}
use Rattle.srt_group.specs.Made.{parts_of}
use Rattle.srt_group_queueing.specs.Laws.Calls.{data_refused_first}
use Rattle.srt_group_refusals.specs.Begins.{BeginsStored}
use Rattle.srt_group_words.specs.Record.{record_size, group_of}
use Rattle.srt_group_words.specs.Words.{silent, words, PromisedWords}
use Rattle.srt_group_words.specs.Laws.Words.{silent_enough, in_words_of}
use Rattle.srt_group_words.specs.Laws.Begin.{refused_in_words}

-- 5 of the tables or of the store, and 6
pub queue_refused : (id : ℕ) (d : Data) (payload : List ℕ) (w : List ℕ) (t : Tables) (store : List ℕ) → record_size ≤ length w
    → {o : Outcome} {used : List ℕ} → BeginsStored (parts_of (group_of w)) t (length store) o used → (e : Error) → o ≡ Err e
    → {code : ℕ} → code ≡ error_number e
    → PromisedWords (call_queue_data id d payload) silent false (words w t (storing store) []) code (words w t (storing store) [])
unfolding overwritten
queue_refused id d payload w t store long begins e refused {code} same =
    let call = call_queue_data id d payload in
    in_words_of call silent w t (storing store) [] (silent_enough w t (storing store) long) w t (storing store) [] code no_answer 0
    (refused_in_words call w t (storing store) e same
    (data_refused_first id d payload (parts_of (group_of w)) t store begins e refused))
    refl refl
