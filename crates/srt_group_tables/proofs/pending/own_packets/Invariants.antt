-- `own_packets` meets its contract. The loop's invariant: the packets before `at` that are the member's have become the group's
-- own, and each packet is as it was or has.
use Rattle.srt_group_tables.specs.Laws.PacketLaws.{Owning}
use Rattle.srt_group_tables.proofs.pending.own_packets.Given as goal

abbrev pub invariant-loop-at : goal.invariant-loop-at
invariant-loop-at l = Owning l.member l.count l.initial.pending l.pending l.at
