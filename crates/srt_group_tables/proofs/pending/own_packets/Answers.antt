-- `own_packets` meets its contract. The loop's invariant: the packets before `at` that are the member's have become the group's
-- own, and each packet is as it was or has.
use Rattle.std.proofs.Common.{arith}
use Rattle.srt_group_tables.specs.Laws.PacketLaws.{owned_one, owned_not, owned_all}
use Rattle.srt_group_tables.proofs.pending.own_packets.Goals as goal
use Rattle.srt_group_tables.proofs.pending.own_packets.Goals.{then-pending-start, else-pending-start}

pub loop-at-preserved : goal.loop-at-preserved
loop-at-preserved c =
    elim c.if-pending-start.branch [
      | then-pending-start w ↦ rw w.pending-is (owned_one _ _ _ _ _ _ c.loop-at.invariant (omega arith) (omega arith) (omega arith) (omega arith) w.if-pending-start.true)
      | else-pending-start w ↦ rw w.pending-is (owned_not _ _ _ _ _ _ c.loop-at.invariant (omega arith) (omega arith) w.if-pending-start.false)
    ]

pub returns : goal.returns
returns c = owned_all _ _ _ _ _ c.loop-at.invariant (omega arith)
