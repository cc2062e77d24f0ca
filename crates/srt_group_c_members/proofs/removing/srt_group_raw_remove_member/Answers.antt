-- `srt_group_raw_remove_member` meets its contract: 5 for the record, or the promise of the call by value.
use Rattle.srt_group_words.specs.Laws.Words.{silent_moved}
use Rattle.srt_group_c_members.proofs.removing.srt_group_raw_remove_member.Goals as goal

pub returns : goal.returns
returns c = search silent_moved
