-- `trim_backup_history` meets its contract.
use Rattle.srt_group_backup.specs.Laws.Trimming.{no_sender_none_trimmed, acknowledged_trimmed}
use Rattle.srt_group_backup.proofs.trimming.trim_backup_history.Goals as goal

pub returns-then-not-has_sender : goal.returns-then-not-has_sender
returns-then-not-has_sender c = search no_sender_none_trimmed

pub returns : goal.returns
returns c = search acknowledged_trimmed
