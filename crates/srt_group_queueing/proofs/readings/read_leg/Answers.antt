-- `read_leg` meets its contract: what follows 5 and 6, in a state that is ready.
use Rattle.srt_group_shown.specs.Laws.Steps.{rows_there, unbroken_of, nothing_delivered, performs_keeping}
use Rattle.srt_group_queueing.proofs.readings.read_leg.Goals as goal

pub put_reading-requires : goal.put_reading-requires
put_reading-requires c = rows_there c.requires

pub returns : goal.returns
returns c = performs_keeping c.requires nothing_delivered (c.put_reading.ensures.over _ _ _ _ _ _ _ (unbroken_of c.requires))
