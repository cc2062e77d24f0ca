-- `release_range` meets its contract. The loop's invariant: the packets before `at` are released, and their cells free.
use Rattle.srt_group_model.specs.Sound.{pending_cells}
use Rattle.srt_group_tables.specs.Packets.{packets_between}
use Rattle.cell_set.specs.Sets.{Freed}
use Rattle.srt_group_delivery.specs.Delivery.{Released}
use Rattle.srt_group_delivery.proofs.delivery.release_range.Given as goal

abbrev pub invariant-loop-at : goal.invariant-loop-at
invariant-loop-at l = Released (packets_between l.from l.at l.pending) l.initial.core l.initial.members l.core l.members × Freed (pending_cells (packets_between l.from l.at l.pending)) l.initial.used l.used
