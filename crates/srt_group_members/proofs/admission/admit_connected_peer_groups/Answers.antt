-- `admit_connected_peer_groups` meets its contract. The loop's invariant: the rows passed are done, and what is left gives the
-- rest (`Admitting`).
use Rattle.srt_group_members.specs.Laws.Admission.{admitting_on}
use native.Mathlib.Omega.{arith}
use Rattle.srt_group_members.proofs.admission.admit_connected_peer_groups.Goals as goal

pub loop-i-preserved : goal.loop-i-preserved
loop-i-preserved c =
    admitting_on _ _ _ _ _ _ _ _ (omega arith)
    c.loop-i.invariant c.admit_peer_group-admission.ensures
