-- `put_link_trip` meets its contract: the law `link_trip_put`.
use Rattle.srt_connection_queue.specs.Laws.Rows.{link_trip_put}
use Rattle.srt_connection_queue.proofs.rows.put_link_trip.Goals as goal

pub returns : goal.returns
returns c = rw (c.put_part.ensures, c.link_part_words.ensures) (link_trip_put _ c.told-row _ _)
