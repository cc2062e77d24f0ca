-- `is_late` meets its contract: the base that is shown, if there is one, is asked.
use Rattle.std.proofs.Common.{rules}
use Rattle.srt_group_collecting.specs.Laws.Collect.{late_after}
use Rattle.srt_group_collecting.proofs.collecting.is_late.Goals as goal

pub returns : goal.returns
returns c = late_after _ _ _ c.base.ensures (search rules)
