-- `srt_group_raw_can_send` meets its contract: 5 for the rows of words, or the promise of the call by value.
use Rattle.srt_group_words.specs.Laws.Words.{said_moved}
use Rattle.srt_group_c_readiness.proofs.readiness.srt_group_raw_can_send.Goals as goal

pub returns : goal.returns
returns c = search said_moved
