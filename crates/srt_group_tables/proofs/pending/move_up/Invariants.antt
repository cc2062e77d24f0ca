-- `move_up` meets its contract. The loop's invariant: the words of the last places have moved, and those below have not.
use Rattle.srt_group_tables.specs.Laws.PacketLaws.{MovingUp}
use Rattle.srt_group_tables.proofs.pending.move_up.Given as goal

abbrev pub invariant-loop-at : goal.invariant-loop-at
invariant-loop-at l = MovingUp l.width l.start l.initial.index l.from l.end l.index l.at
