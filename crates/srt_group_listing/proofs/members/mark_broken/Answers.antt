-- `mark_broken` meets its contract.
use Rattle.srt_group_listing.specs.Laws.Telling.{tells_breaking}
use Rattle.srt_group_listing.proofs.members.mark_broken.Goals as goal

pub returns : goal.returns
returns c = search tells_breaking
