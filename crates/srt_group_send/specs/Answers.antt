-- What a send answers, as document 01 has it: the code, and on how many legs the payload went where it was sent.
use Rattle.std.specs.Prelude.{ℕ, Err, Ok, Result}
use Rattle.srt_protocol.specs.declared.error.Error.{Error}
use Rattle.srt_protocol.specs.Errors.{error_number}
use Rattle.srt_group_model.specs.Guards.{Answer, no_answer, shown, number}

abbrev pub send_number : Result ℕ Error → ℕ
send_number (Ok legs) = 0
send_number (Err e) = error_number e

abbrev pub send_answer : Result ℕ Error → Answer
send_answer (Ok legs) = shown (number legs)
send_answer (Err e) = no_answer
