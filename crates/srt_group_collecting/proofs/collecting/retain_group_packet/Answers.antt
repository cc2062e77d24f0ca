-- `retain_group_packet` meets its contract: a packet that is discarded frees its cell.
use Rattle.srt_group_collecting.specs.Laws.Used.{discarded_freed}
use Rattle.srt_group_collecting.proofs.collecting.retain_group_packet.Goals as goal

pub returns-then-is_discarded-clause-freed : goal.returns-then-is_discarded-clause-freed
returns-then-is_discarded-clause-freed c = search discarded_freed
