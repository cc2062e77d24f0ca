-- `table_history` keeps to the ring.
use Rattle.srt_group_tables.specs.Ring.{arrays}
use Rattle.table_bench.specs.Made.{InArrays}
use Rattle.table_bench.proofs.table_history.Given as goal

abbrev pub invariant-loop-sequence : goal.invariant-loop-sequence
invariant-loop-sequence l = InArrays l.ring.length (arrays l.history l.sources)
