-- `replay_flight` meets its contract.
use Rattle.srt_group_backup.specs.Laws.TakeOver.{gap_not_replayed, unaligned_not_replayed, aligned_replayed}
use Rattle.srt_group_backup.proofs.takeover.replay_flight.Goals as goal

pub returns-then-sending-ne0 : goal.returns-then-sending-ne0
returns-then-sending-ne0 c = search gap_not_replayed

pub returns-in_default : goal.returns-in_default
returns-in_default c = search unaligned_not_replayed

pub returns : goal.returns
returns c = search aligned_replayed
