-- `srt_group_raw_send` meets its contract: 5 for the rows of words and for the list, 5 and 6 of the call, and then its form for a valid state.
use Rattle.srt_group_words.specs.Laws.Begin.{stored_sent}
use Rattle.srt_group_c_send.specs.Laws.Sends.{list_short, begin_refused}
use Rattle.srt_group_c_send.proofs.sends.srt_group_raw_send.Goals as goal

pub returns-then-list-lt-SENT_LENGTH : goal.returns-then-list-lt-SENT_LENGTH
returns-then-list-lt-SENT_LENGTH c = list_short _ _ _ _ _ _ _ c.if-record-lt-RECORD.false c.if-answer-lt-SENT.false c.put.ensures c.if-list-lt-SENT_LENGTH.true

pub returns-in-Err : goal.returns-in-Err
returns-in-Err c = begin_refused _ _ _ _ _ _ _ c.if-record-lt-RECORD.false c.if-answer-lt-SENT.false c.put-in-Err.ensures c.if-list-lt-SENT_LENGTH.false c.begin_stored-begun.ensures _ c.in-Err.is c.from.ensures

pub returns : goal.returns
returns c = stored_sent c.if-record-lt-RECORD.false c.if-answer-lt-SENT.false c.begin_stored-begun.ensures c.in_default.is c.srt_group_valid_send.ensures
