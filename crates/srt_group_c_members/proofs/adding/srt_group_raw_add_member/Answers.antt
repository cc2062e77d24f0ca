-- `srt_group_raw_add_member` meets its contract: 5 for the record, or the promise of the call by value.
use Rattle.srt_group_words.specs.Laws.Words.{row_moved}
use Rattle.srt_group_c_members.proofs.adding.srt_group_raw_add_member.Goals as goal

pub returns : goal.returns
returns c = search row_moved
