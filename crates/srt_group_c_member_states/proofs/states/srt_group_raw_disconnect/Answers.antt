-- `srt_group_raw_disconnect` meets its contract: 5 for the record, or the promise of the call by value.
use Rattle.srt_group_words.specs.Laws.Words.{silent_kept}
use Rattle.srt_group_c_member_states.proofs.states.srt_group_raw_disconnect.Goals as goal

pub returns : goal.returns
returns c = search silent_kept
