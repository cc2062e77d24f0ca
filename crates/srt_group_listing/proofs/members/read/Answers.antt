-- `read` meets its contract.
use Rattle.srt_group_listing.specs.Laws.Telling.{tells_reading}
use Rattle.srt_group_listing.proofs.members.read.Goals as goal

pub returns : goal.returns
returns c = search tells_reading
