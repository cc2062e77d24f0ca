-- `put_receiver` meets its contract: the law `receiver_put`.
use Rattle.srt_connection_queue.specs.Laws.Rows.{receiver_put}
use Rattle.srt_connection_queue.proofs.rows.put_receiver.Goals as goal

pub returns : goal.returns
returns c = rw (c.put_part.ensures, c.receiver_words-words.ensures, c.part.ensures) (receiver_put _ c.told-row _)
