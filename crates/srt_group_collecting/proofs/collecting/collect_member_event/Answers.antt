-- `collect_member_event` meets its contract.
use Rattle.srt_group_collecting.specs.Laws.Visit.{collected_data, collected_other}
use Rattle.srt_group_collecting.specs.Laws.Used.{data_freed, event_kept}
use Rattle.srt_group_collecting.proofs.collecting.collect_member_event.Goals as goal

pub returns-then-is_data : goal.returns-then-is_data
returns-then-is_data c = record { collected = search collected_data; freed = search data_freed }

pub returns : goal.returns
returns c = record { collected = search collected_other; freed = search event_kept }
