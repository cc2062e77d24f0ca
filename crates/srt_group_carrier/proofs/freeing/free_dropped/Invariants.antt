-- `free_dropped` meets its contract. The loop's invariant: so many of the oldest entries have left, and their cells are free.
use Rattle.srt_group_carrier.specs.Laws.Freeing.{Freeing}
use Rattle.srt_group_carrier.proofs.freeing.free_dropped.Given as goal

abbrev pub invariant-loop-index : goal.invariant-loop-index
invariant-loop-index l = Freeing l.history.ring l.index l.history.history.now l.initial.used l.used
