-- `send_mode` meets its contract: the cell decides, which the mode has.
use Rattle.std.proofs.Common.{refl}
use Rattle.srt_group_send.specs.Laws.Sends.{backup_by_mode, broadcast_by_mode}
use Rattle.srt_group_send.proofs.sending.send_mode.Goals as goal

pub returns-in_default : goal.returns-in_default
returns-in_default c =
    let in_broadcast = rw c.in_default.is at c.requires.count_le_max_members.1.0 in
    rw c.in_default.is (broadcast_by_mode _ _ _ _ _ _ _ _ refl in_broadcast c.requires.count_le_max_members.0 c.requires.lendable c.send_broadcast-sent.ensures)

pub returns : goal.returns
returns c =
    let in_backup = rw c.in-Some.is at c.requires.count_le_max_members.1.0 in
    rw c.in-Some.is (backup_by_mode _ _ _ _ _ _ _ _ refl in_backup.0 c.send_backup.ensures)
