-- `settle_pending_members` meets its contract. The loop's invariant: the steps that are left give the rest (`Stepping`).
use Rattle.srt_group_model.specs.Members.{settle}
use Rattle.srt_group_members.specs.Laws.Refresh.{Stepping}
use Rattle.srt_group_members.proofs.refresh.settle_pending_members.Given as goal

abbrev pub invariant-loop-i : goal.invariant-loop-i
invariant-loop-i l =
    Stepping (settle l.refresh.mode l.refresh.number) l.count l.initial.members l.i l.members
