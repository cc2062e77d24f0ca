-- `release_held` meets its contract: what is freed is the packet's cell at the place.
use Rattle.srt_group_delivery.specs.Laws.UsedByDelivery.{that_freed}
use Rattle.srt_group_delivery.proofs.delivery.release_held.Goals as goal

pub returns-clause-freed : goal.returns-clause-freed
returns-clause-freed c = search that_freed
