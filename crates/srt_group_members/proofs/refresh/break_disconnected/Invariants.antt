-- `break_disconnected` meets its contract. The loop's invariant: the rows passed are changed, the others not yet (`Changing`).
use Rattle.srt_group_model.specs.Members.{break_disconnected}
use Rattle.srt_connection_members.specs.Laws.Members.{Changing}
use Rattle.srt_group_members.proofs.refresh.break_disconnected.Given as goal

abbrev pub invariant-loop-i : goal.invariant-loop-i
invariant-loop-i l = Changing l.i break_disconnected l.initial.members l.members
