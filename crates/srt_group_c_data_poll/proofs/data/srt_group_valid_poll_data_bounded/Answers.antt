-- `srt_group_valid_poll_data_bounded` meets its contract: that of the form over the parts that the words show.
use Rattle.srt_group_words.specs.Laws.Words.{performs_said}
use Rattle.srt_group_c_data_poll.proofs.data.srt_group_valid_poll_data_bounded.Goals as goal

pub returns : goal.returns
returns c = search performs_said
