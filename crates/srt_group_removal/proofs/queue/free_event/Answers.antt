-- `free_event` meets its contract: only data has a cell.
use Rattle.srt_group_removal.specs.Laws.Queue.{data_freed}
use Rattle.srt_group_removal.proofs.queue.free_event.Goals as goal

pub returns-then-is_data : goal.returns-then-is_data
returns-then-is_data c = search data_freed
