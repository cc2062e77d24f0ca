-- `move_down` meets its contract. The loop's invariant: the words before `at` have moved, and those from there on have not.
use Rattle.srt_group_tables.specs.Laws.PacketLaws.{MovingDown}
use Rattle.srt_group_tables.proofs.pending.move_down.Given as goal

abbrev pub invariant-loop-at : goal.invariant-loop-at
invariant-loop-at l = MovingDown l.width l.start l.initial.index l.from l.end l.index l.at
