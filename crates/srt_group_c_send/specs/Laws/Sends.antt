-- Sends in words.
use Rattle.srt_protocol.specs.Errors.{Outcome, error_number}
use Rattle.std.specs.Prelude.{◌≡◌, false, List, [], ◌∷◌, ℕ, ◌≤◌, ◌<◌, length, Err, Ok, Result}
use Rattle.std.proofs.Math.Path.{refl}
use Rattle.std.proofs.Common.{sym, ap, subst, ◌∙◌, lt-ltb, le-ltb}
use Rattle.srt_protocol.specs.declared.error.Error.{Error}
use Rattle.srt_protocol.specs.Cells.{overwritten}
use Rattle.srt_group_model.specs.Sending.{list_size}
use Rattle.srt_group_model.specs.State.{State, Making}
use Rattle.srt_group_model.specs.Guards.{Answer, no_answer}
use Rattle.srt_group_model.specs.Answers.{values_of, shown_values}
use Rattle.srt_group_model.specs.Lent.{Lent, call_send, perform, with_bytes, step_of}
use Rattle.srt_group_model.specs.Laws.SendLeaves.{send_leaves_receiving}
use Rattle.srt_group_model.specs.declared.Identity.{Identity}
use Rattle.srt_group_shown.specs.Tables.{Tables, state_of}
use Rattle.srt_group_shown.specs.Ready.{Performs, sending_into}
use Rattle.srt_group.specs.Made.{parts_of}
use Rattle.srt_group.specs.declared.Group.{Group}
use Rattle.srt_group_send.specs.Answers.{send_answer}
use Rattle.srt_group_send_calls.specs.Laws.Promised.{list_refused, send_refused}
use Rattle.srt_group_refusals.specs.Begins.{BeginsStored}
use Rattle.srt_group_words.specs.Record.{record_size, group_of, with_sent}
use Rattle.srt_group_words.specs.Words.{zeros, in_words, sent_words, words, PromisedWords, PutSaid}
use Rattle.srt_group_words.specs.Laws.Words.{sent_enough, in_words_of}
use Rattle.srt_group_words.specs.Laws.Begin.{refused_in_words}

-- ---- the words of an answer

module _ {answer : Result ℕ Error} (rows : ℕ) (a : List ℕ) {a' : List ℕ} where
  pub says_sent : (legs : ℕ) → answer ≡ Ok legs → a' ≡ overwritten 0 (legs ∷ rows ∷ []) a
      → a' ≡ overwritten 0 (sent_words (send_answer answer) rows) a
  unfolding sent_words in_words values_of shown_values zeros
  says_sent legs is put = put ∙ ap (λ (r : Result ℕ Error). overwritten 0 (sent_words (send_answer r) rows) a) (sym is)

  pub says_not_sent : (e : Error) → answer ≡ Err e → a' ≡ overwritten 0 (0 ∷ rows ∷ []) a
      → a' ≡ overwritten 0 (sent_words (send_answer answer) rows) a
  unfolding sent_words in_words values_of shown_values zeros
  says_not_sent e is put = put ∙ ap (λ (r : Result ℕ Error). overwritten 0 (sent_words (send_answer r) rows) a) (sym is)

-- ---- the record

module _ {time : ℕ} {payload : List ℕ} {g g' : Group} {t t' : Tables} {bytes bytes' : Lent} {used' : List ℕ} {number : ℕ} {given : Answer} where
  -- a send moves no identity
  sent_identity : Performs (call_send time payload) (parts_of g) t bytes number given (parts_of g') t' bytes' used' → g'.identity ≡ g.identity
  unfolding perform with_bytes step_of
  sent_identity done =
      let making =
      ap (λ (s : State). s.making) done.state
      ∙ (send_leaves_receiving (length bytes.store) (length bytes.list) time payload (state_of (parts_of g) t)).making
      in
      ap (λ (m : Making). record { id = m.id; length = m.length }) making

  -- so the row's own is that of the record that a send leaves
  pub sent_whole : {w w' : List ℕ} → g ≡ group_of w → Performs (call_send time payload) (parts_of g) t bytes number given (parts_of g') t' bytes' used'
      → {said : ℕ} {values a a' : List ℕ} {code : ℕ} → PutSaid (with_sent g'.core g'.sending g'.ring (group_of w)) said values w a code w' a'
      → PutSaid g' said values w a code w' a'
  sent_whole {w} {w'} read done {said} {values} {a} {a'} {code} put =
      subst (λ (i : Identity). PutSaid record { identity = i; core = g'.core; sending = g'.sending; ring = g'.ring } said values w a code w' a')
      (sym (sent_identity done ∙ ap (λ (x : Group). x.identity) read)) put

-- ---- `send`

module _ (time : ℕ) (payload : List ℕ) (w : List ℕ) (t : Tables) (store list answer : List ℕ) (long : record_size ≤ length w) (room : 2 ≤ length answer)
    {answer' : List ℕ} (put : answer' ≡ overwritten 0 (0 ∷ 0 ∷ []) answer) where
  abbrev refused_with : ℕ → Type 0
  refused_with code =
      PromisedWords (call_send time payload) sent_words false (words w t (sending_into store list) answer) code
      (words w t (sending_into store list) answer')

  -- 5 of the list
  pub list_short : length list < list_size → refused_with 5
  unfolding sent_words in_words values_of zeros
  list_short short =
      in_words_of (call_send time payload) sent_words w t (sending_into store list) answer (sent_enough w t (sending_into store list) answer long room) w t
      (sending_into store list) answer' 5 no_answer 0
      (list_refused time payload (parts_of (group_of w)) t store list (lt-ltb (length list) list_size short)) put refl

  -- 5 of the tables or of the store, and 6
  pub begin_refused : list_size ≤ length list → {o : Outcome} {used : List ℕ} → BeginsStored (parts_of (group_of w)) t (length store) o used
      → (e : Error) → o ≡ Err e → {code : ℕ} → code ≡ error_number e → refused_with code
  unfolding sent_words in_words values_of zeros
  begin_refused fits begins e refused {code} same =
      in_words_of (call_send time payload) sent_words w t (sending_into store list) answer (sent_enough w t (sending_into store list) answer long room) w t
      (sending_into store list) answer' code no_answer 0
      (refused_in_words (call_send time payload) w t (sending_into store list) e same
      (send_refused time payload (parts_of (group_of w)) t store list begins (le-ltb (length list) list_size fits) e refused))
      put refl
