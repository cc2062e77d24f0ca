-- `collect_until_held` meets its contract. The loop's invariant: what is left of the visits gives what all of them give (`Holding`).
use Rattle.srt_group_collecting.specs.Laws.Gather.{Holding}
use Rattle.srt_group_collecting.specs.Follows.{Follows}
use Rattle.srt_group_shown.specs.Tables.{receive_tables}
use Rattle.srt_group_collecting.proofs.collecting.collect_until_held.Given as goal

abbrev pub invariant-loop-left : goal.invariant-loop-left
invariant-loop-left l =
    Holding l.left l.initial.visited.core l.budget (receive_tables l.initial.members l.initial.pending l.initial.waiting) l.visited (receive_tables l.members l.pending l.waiting)
    × Follows l.initial.visited.core l.initial.members l.initial.pending l.initial.used l.visited.core l.members l.pending l.used
