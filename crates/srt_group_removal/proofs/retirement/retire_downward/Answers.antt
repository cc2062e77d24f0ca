-- `retire_downward` meets its contract. The loop's invariant: bounding from here on gives what bounding all gives, and from `left` on no packet is
-- reached (`Downward`).
use Rattle.srt_group_removal.specs.Laws.Retire.{downward_start, downward_skip, downward_retire, held_follows_same, held_follows_then}
use Rattle.srt_group_removal.proofs.retirement.retire_downward.Goals as goal

pub loop-at-init : goal.loop-at-init
loop-at-init c = (downward_start _ _ _ _ _ c.requires.held c.requires.reachable, search held_follows_same)

pub loop-at-preserved-then-is_reached : goal.loop-at-preserved-then-is_reached
loop-at-preserved-then-is_reached c = (downward_retire c.loop-at.invariant.0 c.loop-at-test.true _ c.packet-packet.ensures _ c.is_reached.ensures c.if-is_reached.true c.if-core-limit.false _ _ c.retire_at-core.ensures.retired, held_follows_then c.loop-at.invariant.1 c.retire_at-core.ensures.follows_held)

pub loop-at-preserved : goal.loop-at-preserved
loop-at-preserved c = (downward_skip c.loop-at.invariant.0 c.loop-at-test.true _ c.packet-packet.ensures _ c.is_reached.ensures c.if-is_reached.false, c.loop-at.invariant.1)
