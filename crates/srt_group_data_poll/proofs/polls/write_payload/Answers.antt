-- `write_payload` meets its contract where a packet is given.
use Rattle.srt_group_data_poll.specs.Laws.Polling.{wrote_some}
use Rattle.srt_group_data_poll.proofs.polls.write_payload.Goals as goal

pub returns-in-Some : goal.returns-in-Some
returns-in-Some c = search wrote_some
