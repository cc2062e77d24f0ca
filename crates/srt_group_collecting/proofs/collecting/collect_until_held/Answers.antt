-- `collect_until_held` meets its contract. The loop's invariant: what is left of the visits gives what all of them give (`Holding`).
use borrow.Author.Tests.{not-true, not-false}
use Rattle.srt_group_collecting.specs.Laws.Gather.{holding_on, holding_ended, holding_done}
use Rattle.srt_group_collecting.specs.Laws.Follows.{follows_then}
use Rattle.srt_group_collecting.proofs.collecting.collect_until_held.Goals as goal
use Rattle.srt_group_collecting.proofs.collecting.collect_until_held.Goals.{else-loop-left-test, then-loop-left-test+then-not-visited}

pub loop-left-preserved : goal.loop-left-preserved
loop-left-preserved c =
    let args = c.args in (
      holding_on args.core args.budget args.members.now args.pending.now args.waiting.now _ _ c.visit_until_held-visited.result _ _ _ _ _ _
          c.loop-left-test.true c.loop-left.invariant.0 c.visit_until_held-visited.ensures.held_visit (not-false _ c.if-not-visited.false),
      follows_then c.loop-left.invariant.1 c.visit_until_held-visited.ensures.follows,
    )

pub returns-clause-gathers : goal.returns-clause-gathers
returns-clause-gathers c =
    let args = c.args in elim c.loop-left-test.branch [
      | else-loop-left-test w ↦ rw (w.visited-is, w.members-is, w.pending-is, w.waiting-is)
          (holding_done args.core args.budget args.members.now args.pending.now args.waiting.now _ c.loop-left.visited _ _ _
          w.loop-left-test.false c.loop-left.invariant.0)
      | then-loop-left-test+then-not-visited w ↦ rw (w.visited-is, w.members-is, w.pending-is, w.waiting-is)
          (holding_ended args.core args.budget args.members.now args.pending.now args.waiting.now _ _ w.visit_until_held-visited.result _ _ _ _ _ _
          w.loop-left-test.true c.loop-left.invariant.0 w.visit_until_held-visited.ensures.held_visit (not-true _ w.if-not-visited.true))
    ]

pub returns-clause-follows : goal.returns-clause-follows
returns-clause-follows c = elim c.loop-left-test.branch [
  | else-loop-left-test w ↦ rw (w.visited-is, w.members-is, w.pending-is, w.used-is) c.loop-left.invariant.1
  | then-loop-left-test+then-not-visited w ↦ rw (w.visited-is, w.members-is, w.pending-is, w.used-is)
      (follows_then c.loop-left.invariant.1 w.visit_until_held-visited.ensures.follows)
]
