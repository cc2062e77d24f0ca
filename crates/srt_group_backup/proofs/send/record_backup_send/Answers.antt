-- `record_backup_send` meets its contract.
use Rattle.srt_group_backup.specs.Laws.OwnSend.{send_recorded}
use Rattle.srt_group_backup.proofs.send.record_backup_send.Goals as goal

pub returns : goal.returns
returns c =
    send_recorded _ _ _ _ _ _ _ c.requires.length_le_max_history.1 c.requires.packs c.requires.length_le_max_history.0
    c.store.ensures
    c.with_number_after-numbers.ensures c.push_back.ensures c.trim_backup_history.ensures
