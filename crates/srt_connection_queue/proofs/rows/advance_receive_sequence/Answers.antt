-- `advance_receive_sequence` meets its contract: the law `advanced_put`.
use Rattle.srt_connection_queue.specs.Laws.Rows.{advanced_put}
use Rattle.srt_connection_queue.proofs.rows.advance_receive_sequence.Goals as goal

pub returns : goal.returns
returns c = advanced_put _ c.told-row _
