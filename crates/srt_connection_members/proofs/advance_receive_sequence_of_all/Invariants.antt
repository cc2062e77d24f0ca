-- `advance_receive_sequence_of_all` meets its contract. The loop's invariant: the rows passed are changed, the others not yet
-- (`Changing`).
use Rattle.srt_group_model.specs.Legs.{advance_receive_sequence}
use Rattle.srt_group_model.specs.State.{on_leg}
use Rattle.srt_connection_members.specs.Laws.Members.{Changing}
use Rattle.srt_connection_members.proofs.advance_receive_sequence_of_all.Given as goal

abbrev pub invariant-loop-i : goal.invariant-loop-i
invariant-loop-i l =
    Changing l.i (on_leg (advance_receive_sequence l.sequence)) l.initial.members l.members
