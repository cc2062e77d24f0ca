-- `srt_group_valid_read_leg` meets its contract: that of the form over the parts that the words show.
use Rattle.srt_group_words.specs.Laws.Words.{performs_kept}
use Rattle.srt_group_c_queueing.proofs.legs.srt_group_valid_read_leg.Goals as goal

pub returns : goal.returns
returns c = rw (← c.of_words.ensures) (search performs_kept)
