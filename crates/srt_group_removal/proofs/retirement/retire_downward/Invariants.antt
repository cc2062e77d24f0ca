-- `retire_downward` meets its contract. The loop's invariant: bounding from here on gives what bounding all gives, and from `at` on no packet is
-- reached (`Downward`).
use Rattle.srt_group_removal.specs.Retire.{FollowsHeld}
use Rattle.srt_group_removal.specs.Laws.Retire.{Downward}
use Rattle.srt_group_removal.proofs.retirement.retire_downward.Given as goal

abbrev pub invariant-loop-at : goal.invariant-loop-at
invariant-loop-at l =
    Downward l.limit l.base l.all l.initial.core l.initial.pending l.at l.core l.pending × FollowsHeld l.initial.core l.initial.pending l.initial.used l.core l.pending l.used
