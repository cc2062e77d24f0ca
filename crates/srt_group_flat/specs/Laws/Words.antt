-- What is proved of the definitions in specs/Words.antt, and that a promise is the same over an answer in words.
use Rattle.std.specs.Prelude.{◌≡◌, Bool, false, List, ℕ, Err, None, Ok, Option, Result, Some, is_some}
use mir.Val.{bool_byte}
use Rattle.std.specs.Option.{unwrap_or, UnwrapsOrElse}
use Rattle.std.proofs.Math.Path.{refl, ap, subst}
use Rattle.std.proofs.Common.{sym, ◌∙◌, true≢false, arith}
use Rattle.srt_protocol.specs.declared.error.Error.{Error}
use Rattle.srt_protocol.specs.Errors.{error_number}
use Rattle.srt_protocol.specs.Laws.Errors.{refused_not_0}
use Rattle.srt_group_model.specs.Tools.{if_true◌then◌else◌, is_set}
use Rattle.srt_group_model.specs.Laws.Flag.{other_set}
use Rattle.srt_group_model.specs.Guards.{Answer, no_answer, shown, number, data_polled}
use Rattle.srt_group_model.specs.Lent.{Lent, Call}
use Rattle.srt_group_model.specs.declared.Packet.{Packet}
use Rattle.srt_group_shown.specs.Tables.{Parts, Tables}
use Rattle.srt_group_refusals.specs.Promised.{nothing_lent, showing, Promised, PromisedRow}
use Rattle.srt_group_refusals.specs.Laws.Promised.{promised_answers}
use Rattle.srt_group_data_poll.specs.Answers.{data_number, data_answer}
use Rattle.srt_group_data_poll.specs.declared.calls.GroupDataPoll.{GroupDataPoll}
use Rattle.srt_group_send.specs.Answers.{send_number, send_answer}
use Rattle.srt_group_flat.specs.declared.words.DataWords.{DataWords}
use Rattle.srt_group_flat.specs.declared.words.SendWords.{SendWords}
use Rattle.srt_group_flat.specs.Words.{words_answer, no_packet, Says, send_words_answer, SaysSent}

-- ---- the words of an answer

abbrev in_words : (code given : ℕ) → Packet → (continuation : ℕ) → DataWords
in_words code given packet continuation = record { code = code; given = given; packet = packet; continuation = continuation }

-- a packet of zeros, word by word, as `Default` has it
abbrev Zeros : Packet → Type 0
Zeros p =
    (p.member ≡ 0)
    × ((p.owned ≡ 0)
    × ((p.content.sequence ≡ 0)
    × ((p.content.count ≡ 0)
    × ((p.content.message ≡ 0)
    × ((p.content.timestamp ≡ 0) × ((p.content.source.0 ≡ 0) × ((p.content.cell ≡ 0) × (p.content.length ≡ 0))))))))

pub no_packet_is : {p : Packet} → Zeros p → p ≡ no_packet
no_packet_is zeros =
    let content = zeros.1.1 in
    λ i.
    record {
      member = zeros.0 i;
      owned = zeros.1.0 i;
      content =
          record {
            sequence = content.0 i;
            count = content.1.0 i;
            message = content.1.1.0 i;
            timestamp = content.1.1.1.0 i;
            source = record { 0 = content.1.1.1.1.0 i };
            cell = content.1.1.1.1.1.0 i;
            length = content.1.1.1.1.1.1 i;
          };
    }

pub given_or_zeros : (given : Option Packet) {p : Packet} → UnwrapsOrElse given Zeros p → p ≡ unwrap_or given no_packet
given_or_zeros None zeros = no_packet_is zeros
given_or_zeros (Some q) same = same

pub says_refused : {answer : Result GroupDataPoll Error} (e : Error) → answer ≡ Err e → {n : ℕ} → n ≡ error_number e
    → Says answer (in_words n 0 no_packet 0)
unfolding words_answer if_true◌then◌else◌
says_refused e is {n} same =
    subst (λ (a : Result GroupDataPoll Error). Says a (in_words n 0 no_packet 0)) (sym is)
    record {
      answers =
          record {
            same_code = same;
            same_answer = ap (λ (b : Bool). if_true b then no_answer else data_polled None false) (ap is_set same ∙ other_set (error_number e) (refused_not_0 e));
          };
      cleared = record { flag = omega arith; packet = λ none. refl; given = λ refused. refl; continuation = λ refused. refl };
    }

pub says_polled : {answer : Result GroupDataPoll Error} (poll : GroupDataPoll) → answer ≡ Ok poll → {w : DataWords} → Says (Ok poll) w → Says answer w
says_polled poll is {w} says = subst (λ (a : Result GroupDataPoll Error). Says a w) (sym is) says

abbrev answer_with : (continuation : ℕ) → Option Packet → Answer
answer_with continuation packet = data_polled packet (is_set continuation)

module _ {poll : GroupDataPoll} where
  pub says_none : poll.packet ≡ None → Says (Ok poll) (in_words 0 0 no_packet poll.continuation)
  unfolding words_answer if_true◌then◌else◌
  says_none is =
      record {
        answers = record { same_code = refl; same_answer = ap (answer_with poll.continuation) (sym is) };
        cleared =
            record {
              flag = omega arith;
              packet = λ none. refl;
              given = λ refused. refl;
              continuation = λ refused. absurd (true≢false (sym refused));
            };
      }

  pub says_some : (p : Packet) → poll.packet ≡ Some p → Says (Ok poll) (in_words 0 1 p poll.continuation)
  unfolding words_answer if_true◌then◌else◌
  says_some p is =
      record {
        answers = record { same_code = refl; same_answer = ap (answer_with poll.continuation) (sym is) };
        cleared =
            record {
              flag = omega arith;
              packet = λ none. absurd (true≢false none);
              given = λ refused. absurd (true≢false (sym refused));
              continuation = λ refused. absurd (true≢false (sym refused));
            };
      }

-- with a packet or without
says_of : (packet : Option Packet) {continuation : ℕ}
    → Says (Ok record { packet = packet; continuation = continuation }) (in_words 0 (bool_byte (is_some packet)) (unwrap_or packet no_packet) continuation)
says_of None = says_none refl
says_of (Some p) = says_some p refl

pub says_given : {poll : GroupDataPoll} {given : ℕ} {p : Packet} → given ≡ bool_byte (is_some poll.packet) → p ≡ unwrap_or poll.packet no_packet
    → Says (Ok poll) (in_words 0 given p poll.continuation)
says_given {poll} flag same = rw (flag, same) (says_of poll.packet)

-- ---- the words of a send's answer

abbrev sent_words : (code legs rows : ℕ) → SendWords
sent_words code legs rows = record { code = code; legs = legs; rows = rows }

module _ {answer : Result ℕ Error} (rows : ℕ) where
  pub says_sent : (legs : ℕ) → answer ≡ Ok legs → SaysSent answer rows (sent_words 0 legs rows)
  unfolding send_words_answer if_true◌then◌else◌
  says_sent legs is =
      subst (λ (a : Result ℕ Error). SaysSent a rows (sent_words 0 legs rows)) (sym is)
      record {
        answers = record { same_code = refl; same_answer = refl };
        cleared = record { legs = λ refused. absurd (true≢false (sym refused)) };
        filled = refl;
      }

  pub says_not_sent : (e : Error) → answer ≡ Err e → {n : ℕ} → n ≡ error_number e → SaysSent answer rows (sent_words n 0 rows)
  unfolding send_words_answer if_true◌then◌else◌
  says_not_sent e is {n} same =
      subst (λ (a : Result ℕ Error). SaysSent a rows (sent_words n 0 rows)) (sym is)
      record {
        answers =
            record {
              same_code = same;
              same_answer = ap (λ (b : Bool). if_true b then no_answer else shown (number 0)) (ap is_set same ∙ other_set (error_number e) (refused_not_0 e));
            };
        cleared = record { legs = λ refused. refl };
        filled = refl;
      }

-- ---- a promise over an answer in words

pub poll_in_words : {call : Call} {p : Parts} {t : Tables} {bytes : Lent} (p' : Parts) (t' : Tables) (bytes' : Lent) {answer : Result GroupDataPoll Error} {w : DataWords}
    → Promised call p t bytes (showing p' t' bytes' (data_number answer) (data_answer answer) 0) → Says answer w
    → Promised call p t bytes (showing p' t' bytes' w.code (words_answer w) 0)
unfolding showing
poll_in_words p' t' bytes' promised says = promised_answers promised says.answers

pub send_in_words : {call : Call} {p : Parts} {t : Tables} {bytes : Lent} (p' : Parts) (t' : Tables) (bytes' : Lent) {answer : Result ℕ Error} {rows : ℕ} {w : SendWords}
    → Promised call p t bytes (showing p' t' bytes' (send_number answer) (send_answer answer) rows) → SaysSent answer rows w
    → Promised call p t bytes (showing p' t' bytes' w.code (send_words_answer w) w.rows)
unfolding showing
send_in_words {call} {p} {t} {bytes} p' t' bytes' {w = w} promised says =
    subst (λ (n : ℕ). Promised call p t bytes (showing p' t' bytes' w.code (send_words_answer w) n)) (sym says.filled)
    (promised_answers promised says.answers)

pub row_in_words : {call : Call} {p : Parts} {t : Tables} {row : List ℕ} (p' : Parts) (t' : Tables) {number code : ℕ}
    → PromisedRow call p t row (showing p' t' nothing_lent number no_answer 0) → code ≡ number
    → PromisedRow call p t row (showing p' t' nothing_lent code no_answer 0)
row_in_words {call} {p} {t} {row} p' t' promised same =
    subst (λ (n : ℕ). PromisedRow call p t row (showing p' t' nothing_lent n no_answer 0)) (sym same) promised
