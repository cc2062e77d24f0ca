-- `poll_until_data` meets its contract. The loop's invariant: what is left of the event polls gives what all of them give (`Passing`).
use Prim.Native.Nat.{◌-◌}
use Rattle.srt_group_polls.specs.Laws.DataPoll.{Passing}
use Rattle.srt_group_collecting.specs.Follows.{Follows}
use Rattle.srt_group_shown.specs.Tables.{receive_tables}
use Rattle.srt_group_collecting.specs.Leaves.{sends}
use Rattle.srt_group_polls.proofs.polls.poll_until_data.Given as goal

abbrev pub invariant-loop-visit : goal.invariant-loop-visit
invariant-loop-visit l =
    Passing (sends l.sending) (l.visits - l._visit) l.time.0 l.visits l.initial.here (receive_tables l.initial.members l.initial.pending l.initial.waiting) l.here (receive_tables l.members l.pending l.waiting)
    × Follows l.initial.here l.initial.members l.initial.pending l.initial.used l.here l.members l.pending l.used
