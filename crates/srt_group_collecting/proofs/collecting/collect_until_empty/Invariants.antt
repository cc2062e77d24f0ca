-- `collect_until_empty` meets its contract. The loop's invariant: what is left of the visits gives what all of them give (`Emptying`).
use Prim.Native.Nat.{◌-◌}
use Rattle.srt_group_model.specs.Delivery.{max_visits}
use Rattle.srt_group_collecting.specs.Laws.Gather.{Emptying}
use Rattle.srt_group_collecting.specs.Follows.{Follows}
use Rattle.srt_group_shown.specs.Tables.{receive_tables}
use Rattle.srt_group_collecting.proofs.collecting.collect_until_empty.Given as goal

abbrev pub invariant-loop-visit : goal.invariant-loop-visit
invariant-loop-visit l =
    Emptying (max_visits - l._visit) l.sequence l.initial.visited.core l.budget (receive_tables l.initial.members l.initial.pending l.initial.waiting) l.visited (receive_tables l.members l.pending l.waiting)
    × Follows l.initial.visited.core l.initial.members l.initial.pending l.initial.used l.visited.core l.members l.pending l.used
