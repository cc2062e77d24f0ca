-- `replay_entries` meets its contract. The loop's invariant: with the sends so far, what is left of the entries gives what all of
-- them give.
use Rattle.std.proofs.Common.{◌≡◌}
use native.Mathlib.Omega.{arith}
use Rattle.srt_group_tables.specs.Ring.{arrays}
use Rattle.srt_group_backup.specs.Laws.Replay.{replaying_on, replay_stopped, replay_done}
use Rattle.srt_group_backup.proofs.replay.replay_entries.Goals as goal

pub returns-in_default : goal.returns-in_default
returns-in_default c = search replay_stopped

pub loop-index-preserved : goal.loop-index-preserved
loop-index-preserved c =
    let lent = c.args.history.now in
    replaying_on _ _ lent.words.ring (arrays lent.words.history.now lent.sources.now) _ _ _ _ _ _
    c.loop-index.invariant
    c.entry_at-entry.ensures
    c.replay_entry-result.ensures _
    c.loop-index-test.true
    (omega (arith, c.loop-index-test.true, c.loop-index.invariant.long))
    c.in-Some.is

pub returns : goal.returns
returns c =
    let lent = c.args.history.now in
    let end : c.loop-index.index ≡ lent.words.ring.length = omega arith in
    let whole = rw end at c.loop-index.invariant in
    replay_done _ _ lent.words.ring (arrays lent.words.history.now lent.sources.now) _ _ _ _ _ _ whole (omega arith) (omega arith)
