-- `srt_group_raw_members` meets its contract: 5 for the rows of words, or the promise of the look by value.
use Rattle.srt_group_c_looks.specs.Laws.Listed.{listed_said, lists_words}
use Rattle.srt_group_c_looks_c.proofs.members.srt_group_raw_members.Goals as goal

pub returns : goal.returns
returns c = lists_words _ _ _ _ c.if-record-lt-RECORD.false c.if-answer-lt-SHOWN.false c.read_group.ensures c.members.result (listed_said _ c.put_given.ensures) c.members.ensures
