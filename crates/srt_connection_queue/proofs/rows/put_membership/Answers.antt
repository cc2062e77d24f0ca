-- `put_membership` meets its contract: the law `membership_put`.
use Rattle.srt_connection_queue.specs.Laws.Rows.{membership_put}
use Rattle.srt_connection_queue.proofs.rows.put_membership.Goals as goal

pub returns : goal.returns
returns c = rw (c.put_part.ensures, c.membership_words.ensures) (membership_put _ c.told-row _)
