-- `free_queue` meets its contract. The loop's invariant: the cells of the events passed are freed.
use native.Mathlib.Omega.{arith}
use Rattle.srt_group_removal.specs.Laws.Queue.{freeing_on, freeing_done}
use Rattle.srt_group_removal.proofs.queue.free_queue.Goals as goal

pub loop-index-preserved : goal.loop-index-preserved
loop-index-preserved c =
    freeing_on _ _ _ _ _ _ c.loop-index.invariant (omega (arith, c.queue_length-count.ensures)) c.queued_event-event.ensures
    c.free_event.ensures

pub returns : goal.returns
returns c = freeing_done _ _ _ _ c.loop-index.invariant (omega (arith, c.queue_length-count.ensures))
