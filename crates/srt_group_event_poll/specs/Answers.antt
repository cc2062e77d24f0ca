-- What a public event poll answers, as document 01 has it: the code, and what is given where it is accepted.
use Rattle.srt_protocol.specs.declared.error.Error.{Error}
use Rattle.srt_group_delivery.specs.declared.delivery.GroupEvent.{GroupEvent}
use Rattle.std.specs.Prelude.{ℕ, Err, Ok, Option, Result}
use Rattle.srt_protocol.specs.Errors.{error_number}
use Rattle.srt_group_model.specs.Guards.{Answer, no_answer, polled}
use Rattle.srt_group_delivery.specs.Poll.{polled_of}

abbrev pub event_number : Result (Option GroupEvent) Error → ℕ
event_number (Err e) = error_number e
event_number (Ok gave) = 0

-- nothing, an event or a packet
abbrev pub event_answer : Result (Option GroupEvent) Error → Answer
event_answer (Err e) = no_answer
event_answer (Ok gave) = polled (polled_of gave)
