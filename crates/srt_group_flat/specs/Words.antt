-- What the words of a flat answer say, as document 01 has it.
use Rattle.srt_protocol.specs.declared.error.Error.{Error}
use Rattle.srt_group_data_poll.specs.declared.calls.GroupDataPoll.{GroupDataPoll}
use Rattle.std.specs.Prelude.{◌≡◌, true, false, ℕ, ◌≤◌, None, Result, Some}
use Rattle.srt_group_model.specs.Tools.{if_true◌then◌else◌, is_set}
use Rattle.srt_group_model.specs.Guards.{Answer, no_answer, shown, number, data_polled}
use Rattle.srt_group_model.specs.Calls.{no_data}
use Rattle.srt_group_model.specs.declared.Packet.{Packet}
use Rattle.srt_group_refusals.specs.Promised.{Answers}
use Rattle.srt_group_data_poll.specs.Answers.{data_number, data_answer}
use Rattle.srt_group_send.specs.Answers.{send_number, send_answer}
use Rattle.srt_group_flat.specs.declared.words.DataWords.{DataWords}
use Rattle.srt_group_flat.specs.declared.words.SendWords.{SendWords}

-- a refused poll gives nothing; else the packet if one is given, and whether the poll asks to be called again at once
unfoldable pub words_answer : DataWords → Answer
words_answer w =
    if_true is_set w.code then no_answer
    else data_polled (if_true is_set w.given then Some w.packet else None) (is_set w.continuation)

-- the words of no packet
abbrev pub no_packet : Packet
no_packet = record { member = 0; owned = 0; content = no_data }

-- `given` is 0 or 1, and words that say nothing are 0: a packet's where none is given, all but the code where the poll is refused
pub record Cleared (w : DataWords) : Type 0 where
  pub flag : w.given ≤ 1
  pub packet : is_set w.given ≡ false → w.packet ≡ no_packet
  pub given : is_set w.code ≡ true → w.given ≡ 0
  pub continuation : is_set w.code ≡ true → w.continuation ≡ 0

-- the words say what the answer says
pub record Says (answer : Result GroupDataPoll Error) (w : DataWords) : Type 0 where
  pub answers : Answers (data_number answer) (data_answer answer) w.code (words_answer w)
  pub cleared : Cleared w

-- ---- a send

-- a refused send gives nothing; else on how many legs the payload went
unfoldable pub send_words_answer : SendWords → Answer
send_words_answer w = if_true is_set w.code then no_answer else shown (number w.legs)

-- of legs 0 where the send is refused
pub record ClearedSent (w : SendWords) : Type 0 where
  pub legs : is_set w.code ≡ true → w.legs ≡ 0

-- the words say what the answer says, and how many rows are filled
pub record SaysSent (answer : Result ℕ Error) (rows : ℕ) (w : SendWords) : Type 0 where
  pub answers : Answers (send_number answer) (send_answer answer) w.code (send_words_answer w)
  pub cleared : ClearedSent w
  pub filled : w.rows ≡ rows
