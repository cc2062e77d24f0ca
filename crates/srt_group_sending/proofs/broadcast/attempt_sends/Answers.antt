-- `attempt_sends` meets its contract. The loop's invariant: the members passed are tried, the others not yet.
use Rattle.srt_group_sending.specs.Laws.Broadcast.{attempting_start, attempting_on}
use Rattle.srt_group_sending.proofs.broadcast.attempt_sends.Goals as goal

pub loop-i-init : goal.loop-i-init
loop-i-init c = attempting_start _ _ _ _ _ _

pub loop-i-preserved : goal.loop-i-preserved
loop-i-preserved c = search attempting_on
