-- `align_carrier` meets its contract: with no number of the group there is nothing to align to.
use Rattle.srt_group_backup.specs.Laws.TakeOver.{without_number}
use Rattle.srt_group_backup.proofs.takeover.align_carrier.Goals as goal

pub returns-then-is_none : goal.returns-then-is_none
returns-then-is_none c = without_number _ _ _ _ c.next_send_sequence-number.ensures c.is_none.ensures c.if-is_none.true
