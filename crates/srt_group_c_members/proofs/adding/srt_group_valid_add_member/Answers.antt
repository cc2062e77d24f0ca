-- `srt_group_valid_add_member` meets its contract: that of the form over the parts that the words show.
use Rattle.srt_group_words.specs.Laws.Words.{performs_silent}
use Rattle.srt_group_c_members.proofs.adding.srt_group_valid_add_member.Goals as goal

pub returns : goal.returns
returns c = rw (← c.of_words.ensures) (search performs_silent)
