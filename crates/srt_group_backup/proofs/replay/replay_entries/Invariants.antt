-- `replay_entries` meets its contract. The loop's invariant: with the sends so far, what is left of the entries gives what all of
-- them give.
use Rattle.srt_group_tables.specs.Ring.{entries_of, arrays}
use Rattle.srt_group_backup.specs.Laws.Replay.{Replaying}
use Rattle.srt_group_backup.proofs.replay.replay_entries.Given as goal

abbrev pub invariant-loop-index : goal.invariant-loop-index
invariant-loop-index l =
    Replaying l.time.0 l.id (entries_of l.history.words.ring (arrays l.history.words.history.now l.history.sources.now)) l.initial.here l.sent l.initial.list l.here l.index l.list
