-- `queue_breaks_rule` meets its contract. The loop's invariant: the events before `at` are good, their cells are marked, and `sum` is theirs.
use Rattle.std.proofs.Common.{ap, not}
use mathlib.Core.Path.{refl}
use Rattle.srt_group_rules.specs.Laws.Sums.{queued_start, queued_one}
use Rattle.srt_group_state.specs.Laws.Passes.{passing_start, passing_on, event_passed, queue_passed}
use Rattle.srt_group_state.proofs.passes.queue_breaks_rule.Goals as goal

pub loop-at-init : goal.loop-at-init
loop-at-init c = (passing_start _ _ _ _ _ c.requires, queued_start _ _)

pub loop-at-preserved : goal.loop-at-preserved
loop-at-preserved c = (passing_on c.loop-at.invariant.0 c.loop-at-test.true (event_passed c.args.row.now c.ring_of-ring.result _ _ _ _ c.queue_event-event.ensures _ c.event_breaks_rule.ensures _ _ c.mark_event.ensures c.if-event_breaks_rule.false (ap not c.if-not-mark_event.false)) refl, queued_one _ _ _ _ c.loop-at.invariant.1 _ _ c.queue_event-event.ensures c.data_count-sum.ensures c.loop-at-test.true)

-- written out so that another sum is refused by the number that differs, not by a search that ends
pub returns : goal.returns
returns c =
    queue_passed _ _ c.ring_of-ring.ensures c.args.reserved c.loop-at.invariant.0 c.loop-at.sum c.if-count-gt-MAX_QUEUED.false c.loop-at.invariant.1
    c.loop-at-test.false
