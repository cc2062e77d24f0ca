-- The send on the first active member.
use Rattle.std.specs.Prelude.{ℕ}
use Rattle.srt_group_model.specs.State.{State}
use Rattle.srt_group_model.specs.Sending.{Flow, ◌and_then◌}
use Rattle.srt_group_model.specs.Backup.{take_over_backup_flight, send_at_place}

-- it takes over if another member carried, and carries
abbrev pub on_carrier : (time size cell place : ℕ) → State → Flow
on_carrier time size cell i s = take_over_backup_flight time i s and_then send_at_place time size cell i
