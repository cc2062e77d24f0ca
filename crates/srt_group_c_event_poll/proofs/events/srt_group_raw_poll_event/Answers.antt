-- `srt_group_raw_poll_event` meets its contract: 5 for the rows of words, 5 and 6 of the poll, and then its form for a valid state.
use Rattle.srt_group_words.specs.Laws.Begin.{poll_performed, poll_refused}
use Rattle.srt_group_refusals.specs.Laws.Polled.{event_poll_refused}
use Rattle.srt_group_c_event_poll.proofs.events.srt_group_raw_poll_event.Goals as goal

pub returns-in-Err : goal.returns-in-Err
returns-in-Err c = poll_refused _ _ _ _ _ _ c.if-record-lt-RECORD.false c.if-answer-lt-POLLED.false _ c.from.ensures c.put.ensures (event_poll_refused _ _ _ _ _ c.begin_poll-begun.ensures _ c.in-Err.is)

pub returns : goal.returns
returns c = search poll_performed
