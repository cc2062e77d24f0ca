-- `remember_send` meets its contract: room is made, the cell taken, the entry recorded, and what is trimmed freed.
use Rattle.srt_group_carrier.specs.Laws.Recording.{send_remembered}
use Rattle.srt_group_carrier.proofs.recording.remember_send.Goals as goal

pub returns-clause-send_follows : goal.returns-clause-send_follows
returns-clause-send_follows c = search send_remembered
