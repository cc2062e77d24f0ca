-- `break_member` meets its contract where it promotes, in Backup: what promotes is `promote_backup_member`.
use Rattle.srt_group_collecting.specs.Laws.Collect.{broken_promoted}
use Rattle.srt_group_collecting.proofs.collecting.break_member.Goals as goal

pub returns : goal.returns
returns c =
    broken_promoted _ _ _ _ _ c.if-kind-lt-FIRST_BREAKING.false c.is_backup.ensures c.if-not-is_backup.false c.turn_at.ensures c.promote_backup_member.ensures
