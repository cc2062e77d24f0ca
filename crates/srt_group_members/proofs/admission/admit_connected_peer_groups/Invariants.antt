-- `admit_connected_peer_groups` meets its contract. The loop's invariant: the rows passed are done, and what is left gives the
-- rest (`Admitting`).
use Rattle.srt_group_members.specs.Laws.Admission.{Admitting}
use Rattle.srt_group_members.proofs.admission.admit_connected_peer_groups.Given as goal

abbrev pub invariant-loop-i : goal.invariant-loop-i
invariant-loop-i l = Admitting l.count l.peer l.initial.members l.i l.admission l.members
