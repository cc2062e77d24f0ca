-- `free_queue` meets its contract. The loop's invariant: the cells of the events passed are freed.
use Rattle.srt_connection_queue.specs.Rows.{member_of}
use Rattle.srt_group_removal.specs.Laws.Queue.{FreedTo}
use Rattle.srt_group_removal.proofs.queue.free_queue.Given as goal

abbrev pub invariant-loop-index : goal.invariant-loop-index
invariant-loop-index l = FreedTo (member_of l.row) l.initial.used l.index l.used
