-- `add` meets its contract: an addition of the leg that the line describes.
use Rattle.srt_group_listing.specs.Laws.Telling.{tells_addition}
use Rattle.srt_group_listing.proofs.members.add.Goals as goal

pub returns : goal.returns
returns c = search tells_addition
