-- `collect_until_empty` meets its contract. The loop's invariant: what is left of the visits gives what all of them give (`Emptying`).
use borrow.Author.Tests.{not-true, not-false}
use Rattle.srt_group_collecting.specs.Laws.Gather.{held_most, emptying_on, emptying_settled, emptying_ended, emptying_spent}
use Rattle.std.proofs.Common.{◌≡◌, ◌+◌, ◌-◌}
use Rattle.srt_group_model.specs.Delivery.{max_visits}
use borrow.Author.Rules.{rules}
use native.Mathlib.Omega.{arith}
use Rattle.srt_group_collecting.specs.Laws.Follows.{follows_then}
use Rattle.srt_group_collecting.specs.Laws.Used.{follows_continued}
use Rattle.std.proofs.Math.Path.{refl}
use Rattle.srt_group_collecting.proofs.collecting.collect_until_empty.Goals as goal

pub is_settled-requires-clause-pending_size_in_bounds : goal.is_settled-requires-clause-pending_size_in_bounds
is_settled-requires-clause-pending_size_in_bounds c = (search rules, search held_most)

pub returns-then-is_settled : goal.returns-then-is_settled
returns-then-is_settled c =
    let args = c.args in
    let loop = c.loop-visit in record {
      empties = emptying_settled args.sequence args.core args.budget args.members.now args.pending.now args.waiting.now _ loop.visited _ _ _
          loop.invariant.0 (omega arith) c.is_settled.ensures c.if-is_settled.true;
      follows = loop.invariant.1;
    }

pub returns-then-not-visited : goal.returns-then-not-visited
returns-then-not-visited c =
    let args = c.args in
    let loop = c.loop-visit in record {
      empties = emptying_ended args.sequence args.core args.budget args.members.now args.pending.now args.waiting.now _ loop.visited _ _ _
          loop.invariant.0 (omega arith) c.is_settled.ensures c.if-is_settled.false c.collect_one_event-visited.result _ _ _ c.collect_one_event-visited.ensures.collects _
          (not-true _ c.if-not-visited.true) refl;
      follows = follows_then loop.invariant.1 c.collect_one_event-visited.ensures.follows;
    }

pub loop-visit-preserved : goal.loop-visit-preserved
loop-visit-preserved c =
    let args = c.args in
    let loop = c.loop-visit in
    let one_less : max_visits - (loop._visit + 1) ≡ max_visits - loop._visit - 1 = omega arith in (
      rw one_less (emptying_on args.sequence args.core args.budget args.members.now args.pending.now args.waiting.now _ loop.visited _ _ _
          loop.invariant.0 (omega arith) c.is_settled.ensures c.if-is_settled.false c.collect_one_event-visited.result _ _ _ c.collect_one_event-visited.ensures.collects
          (not-false _ c.if-not-visited.false)),
      follows_then loop.invariant.1 c.collect_one_event-visited.ensures.follows,
    )

pub is_held-held-requires-clause-pending_size_in_bounds : goal.is_held-held-requires-clause-pending_size_in_bounds
is_held-held-requires-clause-pending_size_in_bounds c = (search rules, search held_most)

pub returns : goal.returns
returns c =
    let args = c.args in
    let loop = c.loop-visit in record {
      empties = emptying_spent args.sequence args.core args.budget args.members.now args.pending.now args.waiting.now _ loop.visited _ _ _
          loop.invariant.0 (omega arith) c.is_held-held.ensures c.or_continue-after.ensures;
      follows = follows_continued _ _ _ _ _ _ _ _ _ _ loop.invariant.1 c.or_continue-after.ensures;
    }
