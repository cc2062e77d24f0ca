-- `srt_group_valid_begin` meets its contract: 5 for the rows of words, or how a call begins.
use Rattle.srt_group_words.specs.Laws.Begin.{record_unfit, set_refused, begins_valid}
use Rattle.srt_group_c_members.proofs.start.srt_group_valid_begin.Goals as goal

pub returns-then-record-lt-RECORD : goal.returns-then-record-lt-RECORD
returns-then-record-lt-RECORD c = search record_unfit

pub returns-then-used-ne-WORDS : goal.returns-then-used-ne-WORDS
returns-then-used-ne-WORDS c = search set_refused

pub returns : goal.returns
returns c = search begins_valid
