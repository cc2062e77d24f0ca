-- A data poll's answer in words, a refused one's too.
use Rattle.std.proofs.Common.{◌∙◌, ap}
use mir.Val.{bool_byte}
use Rattle.srt_group_flat.specs.Laws.Words.{no_packet_is, given_or_zeros, says_refused, says_polled, says_given}
use Rattle.srt_group_flat.proofs.words.DataWordsFromResultGroupDataPollError.from.Goals as goal

pub returns-in-Err : goal.returns-in-Err
returns-in-Err c = rw (no_packet_is c.default.ensures) (says_refused c.in-Err.error c.in-Err.is c.from-code.ensures)

pub returns-in-Ok : goal.returns-in-Ok
returns-in-Ok c = says_polled _ c.in-Ok.is (says_given (c.from.ensures ∙ ap bool_byte c.is_some.ensures) (given_or_zeros _ c.unwrap_or_default.ensures))
