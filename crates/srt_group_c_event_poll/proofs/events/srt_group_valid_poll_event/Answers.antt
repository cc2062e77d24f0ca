-- `srt_group_valid_poll_event` meets its contract: that of the form over the parts that the words show.
use Rattle.srt_group_words.specs.Laws.Words.{performs_said}
use Rattle.srt_group_c_event_poll.proofs.events.srt_group_valid_poll_event.Goals as goal

pub returns : goal.returns
returns c = search performs_said
