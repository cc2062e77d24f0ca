-- `enqueue` meets its contract: 31, or the packet in the queue, its count reserved, its payload in the cell, and the cell taken.
use Rattle.srt_group_queueing.specs.Laws.Queueing.{enqueue_accepted}
use Rattle.srt_group_queueing.proofs.queueing.enqueue.Goals as goal

pub returns : goal.returns
returns c =
    enqueue_accepted _ _ _ _ _ _ _ c.requires _ _ _ _ _ c.data_event-event.ensures c.push_at.ensures c.in_ok-push_at.was c.reserve_leg_at.ensures c.put_payload.ensures c.take.ensures
