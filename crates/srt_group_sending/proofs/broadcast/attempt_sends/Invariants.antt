-- `attempt_sends` meets its contract. The loop's invariant: the members passed are tried, the others not yet.
use Rattle.srt_group_sending.specs.Laws.Broadcast.{Attempting}
use Rattle.srt_group_sending.proofs.broadcast.attempt_sends.Given as goal

abbrev pub invariant-loop-i : goal.invariant-loop-i
invariant-loop-i l =
    Attempting l.count l.i l.time.0 l.size l.sequence l.initial.members l.initial.list l.sent l.members l.list
