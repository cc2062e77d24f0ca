-- `put_sender` meets its contract: the law `sender_put`.
use Rattle.srt_connection_queue.specs.Laws.Rows.{sender_put}
use Rattle.srt_connection_queue.proofs.rows.put_sender.Goals as goal

pub returns : goal.returns
returns c = rw (c.put_part.ensures, c.sender_words.ensures) (sender_put _ c.told-row _)
