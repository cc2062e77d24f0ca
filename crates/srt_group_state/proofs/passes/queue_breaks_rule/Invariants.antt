-- `queue_breaks_rule` meets its contract. The loop's invariant: the events before `at` are good, their cells are marked, and `sum` is theirs.
use Rattle.srt_group_rules.specs.Laws.Sums.{Queued}
use Rattle.srt_group_state.specs.Laws.Passes.{PassedTo, event_good, event_names}
use Rattle.srt_group_state.proofs.passes.queue_breaks_rule.Given as goal

abbrev pub invariant-loop-at : goal.invariant-loop-at
invariant-loop-at l = PassedTo l.cells (event_good l.row l.ring) (event_names l.row l.ring) l.ring.length l.initial.used l.at l.used × Queued l.row l.ring l.at l.sum
