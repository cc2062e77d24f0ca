-- `place` meets its contract. The loop's invariant: the place is between `low` and `high`.
use Prim.Native.Nat.{◌-◌}
use Rattle.srt_group_tables.specs.Laws.PacketLaws.{Between}
use Rattle.srt_group_tables.proofs.pending.place.Given as goal

abbrev pub invariant-loop-low : goal.invariant-loop-low
invariant-loop-low l = Between l.pending l.count l.sequence l.low l.high

abbrev pub decreases-loop-low : goal.decreases-loop-low
decreases-loop-low l = l.high - l.low
