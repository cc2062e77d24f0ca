-- `srt_group_raw_queue_data` meets its contract: 5 for the record, 5 and 6 of the call, and then its form for a valid state.
use Rattle.srt_group_words.specs.Laws.Begin.{stored_silent}
use Rattle.srt_group_c_queueing.specs.Laws.Queued.{queue_refused}
use Rattle.srt_group_c_queueing.proofs.data.srt_group_raw_queue_data.Goals as goal

pub returns-in-Err : goal.returns-in-Err
returns-in-Err c = queue_refused _ _ _ _ _ _ c.if-record-lt-RECORD.false c.begin_stored-begun.ensures _ c.in-Err.is c.from.ensures

pub returns : goal.returns
returns c = search stored_silent
