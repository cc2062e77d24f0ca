-- `srt_group_raw_refresh_member_states` meets its contract: 5 for the record, or the promise of the call by value.
use Rattle.srt_group_words.specs.Laws.Words.{silent_moved}
use Rattle.srt_group_c_member_states.proofs.states.srt_group_raw_refresh_member_states.Goals as goal

pub returns : goal.returns
returns c = search silent_moved
