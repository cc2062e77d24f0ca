-- `visit_until_held` meets its contract.
use borrow.Author.Tests.{not-true, not-false}
use Rattle.std.proofs.Math.Path.{refl}
use Rattle.srt_group_collecting.specs.Laws.Gather.{held_none, held_one}
use Rattle.srt_group_collecting.specs.Laws.Used.{follows_continued}
use Rattle.srt_group_collecting.proofs.collecting.visit_until_held.Goals as goal

pub returns-then-not-visited-clause-held_visit : goal.returns-then-not-visited-clause-held_visit
returns-then-not-visited-clause-held_visit c = let args = c.args in held_none args.visits args.before args.members.now args.pending.now args.waiting.now c.requires c.collect_one_event-visited.result _ _ _
    c.if-here-gt0.false c.collect_one_event-visited.ensures.collects (not-true _ c.if-not-visited.true)

pub returns : goal.returns
returns c =
    let args = c.args in
    let ends-with-none-held = c.ends_with_none_held-asked in
    let or_continue = c.or_continue-after in
    let has_pending_data = c.has_pending_data in record {
      held_visit = held_one args.visits args.before args.members.now args.pending.now args.waiting.now c.requires c.collect_one_event-visited.result _ _ _
          c.if-here-gt0.false c.collect_one_event-visited.ensures.collects ends-with-none-held.result has_pending_data.result or_continue.result _
          (not-false _ c.if-not-visited.false) ends-with-none-held.ensures or_continue.ensures has_pending_data.ensures refl;
      follows = follows_continued _ _ _ _ _ _ _ _ _ _ c.collect_one_event-visited.ensures.follows or_continue.ensures;
    }
