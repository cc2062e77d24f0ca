-- What a public data poll answers, as document 01 has it: the code, and what is given where it is accepted.
use Rattle.srt_protocol.specs.declared.error.Error.{Error}
use Rattle.srt_group_data_poll.specs.declared.calls.GroupDataPoll.{GroupDataPoll}
use Rattle.std.specs.Prelude.{ℕ, Err, Ok, Result}
use Rattle.srt_protocol.specs.Errors.{error_number}
use Rattle.srt_group_model.specs.Tools.{is_set}
use Rattle.srt_group_model.specs.Guards.{Answer, no_answer, data_polled}

abbrev pub data_number : Result GroupDataPoll Error → ℕ
data_number (Err e) = error_number e
data_number (Ok d) = 0

-- the packet, and whether it asks to be called again at once
abbrev pub data_answer : Result GroupDataPoll Error → Answer
data_answer (Err e) = no_answer
data_answer (Ok d) = data_polled d.packet (is_set d.continuation)
