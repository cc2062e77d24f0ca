-- `queue_event` meets its contract: what follows 5 and 6, in a state that is ready.
use Rattle.srt_group_shown.specs.Laws.Steps.{rows_there, unbroken_of, nothing_delivered, performs_keeping}
use Rattle.srt_group_queueing.proofs.events.queue_event.Goals as goal

pub push_event-requires : goal.push_event-requires
push_event-requires c = rows_there c.requires

pub returns : goal.returns
returns c = performs_keeping c.requires nothing_delivered (c.push_event.ensures.over _ _ _ _ _ _ _ (unbroken_of c.requires))
