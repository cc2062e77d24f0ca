-- `skip_to` meets its contract: the distance is added to the skipped total.
use Rattle.srt_group_delivery.specs.Laws.Poll.{skips}
use Rattle.srt_group_delivery.proofs.delivery.skip_to.Goals as goal

pub returns : goal.returns
returns c = rw c.set_base.ensures (search skips)
