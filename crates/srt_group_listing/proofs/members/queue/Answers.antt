-- `queue` meets its contract.
use Rattle.srt_group_listing.specs.Laws.Telling.{tells_event}
use Rattle.srt_group_listing.proofs.members.queue.Goals as goal

pub returns : goal.returns
returns c = search tells_event
