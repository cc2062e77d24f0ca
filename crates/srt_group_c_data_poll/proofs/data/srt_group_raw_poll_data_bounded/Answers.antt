-- `srt_group_raw_poll_data_bounded` meets its contract: 5 for the rows of words, 5 and 6 of the poll, and then its form for a valid state.
use Rattle.srt_group_words.specs.Laws.Begin.{poll_performed, poll_refused}
use Rattle.srt_group_refusals.specs.Laws.Polled.{data_poll_refused}
use Rattle.srt_group_c_data_poll.proofs.data.srt_group_raw_poll_data_bounded.Goals as goal

pub returns-in-Err : goal.returns-in-Err
returns-in-Err c = poll_refused _ _ _ _ _ _ c.if-record-lt-RECORD.false c.if-answer-lt-POLLED.false _ c.from.ensures c.put.ensures (data_poll_refused _ _ _ _ _ _ c.begin_poll-begun.ensures _ c.in-Err.is)

pub returns : goal.returns
returns c = search poll_performed
