-- `put_reservation` meets its contract: the law `reservation_put`.
use Rattle.srt_connection_queue.specs.Laws.Rows.{reservation_put}
use Rattle.srt_connection_queue.proofs.rows.put_reservation.Goals as goal

pub returns : goal.returns
returns c = reservation_put _ c.told-row _
