-- `replay_entry` meets its contract.
use Rattle.srt_group_backup.specs.Laws.Replay.{entry_sent}
use Rattle.srt_group_backup.proofs.replay.replay_entry.Goals as goal

pub returns : goal.returns
returns c = entry_sent _ _ _ _ _ _ c.send_shared_with_sequence.ensures _ c.in_ok-after.was c.write_sent.ensures
