-- `run` meets its contract: each turn answers a block more, and the last one the listing's end.
use Rattle.std.proofs.Common.{◌≤◌, length, arith, rules}
use Rattle.replay_io.specs.Laws.Turns.{none_so_far, further, whole_ended}
use Rattle.replay.proofs.run.Goals as goal

pub loop-init : goal.loop-init
loop-init g c =
    let room : 88 ≤ length c.new-2.result.bytes.now = search rules in
    (none_so_far c.new-2.result _ _ c.new.ensures c.new-2.ensures.empty, room)

pub returns-then-count-eq0 : goal.returns-then-count-eq0
returns-then-count-eq0 g c =
    let turned = c.in_ok-count.ensures in
    whole_ended c.finish.result _ (further c.loop.invariant.0 turned.read turned.replayed)
    (turned.read.at_end c.if-count-eq0.true (omega arith)) c.finish.ensures.replayed

pub loop-preserved : goal.loop-preserved
loop-preserved g c =
    let turned = c.in_ok-count.ensures in
    (further c.loop.invariant.0 turned.read turned.replayed, omega (arith, turned.same_buffer.room, c.loop.invariant.1))
