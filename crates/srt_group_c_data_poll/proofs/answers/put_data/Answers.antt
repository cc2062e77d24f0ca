-- `put_data` meets its contract: with a packet and without.
use Rattle.srt_group_c_data_poll.specs.Laws.Answers.{says_some}
use Rattle.srt_group_c_data_poll.proofs.answers.put_data.Goals as goal

pub returns-in-Some : goal.returns-in-Some
returns-in-Some c = search says_some
