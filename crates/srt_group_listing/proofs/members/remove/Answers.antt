-- `remove` meets its contract.
use Rattle.srt_group_listing.specs.Laws.Telling.{tells_removal}
use Rattle.srt_group_listing.proofs.members.remove.Goals as goal

pub returns : goal.returns
returns c = search tells_removal
