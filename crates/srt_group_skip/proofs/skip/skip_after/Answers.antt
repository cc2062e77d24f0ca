-- `skip_after` meets its contract: an event waits, the queues ended empty, or not.
use Rattle.srt_group_skip.specs.Laws.Skip.{event_first, skipped_if_empty, stays_if_not_empty}
use Rattle.srt_group_skip.specs.Laws.SkipUsed.{follows_given}
use Rattle.srt_group_skip.proofs.skip.skip_after.Goals as goal

pub returns-then-core-gt0 : goal.returns-then-core-gt0
returns-then-core-gt0 c =
    let given = c.give_waiting.ensures in record { polls = λ tested time. event_first _ _ _ _ _ _ _ _ _ _ tested time (search) (given _ _); follows = follows_given _ _ _ _ _ _ _ (search) (given _ _) }

pub returns-then-collected-clause-polls : goal.returns-then-collected-clause-polls
returns-then-collected-clause-polls c = λ tested time. skipped_if_empty _ _ _ _ _ _ _ _ _ _ tested time (search) c.if-collected.true (c.skip_to_nearest.ensures.by_index _ tested time)

pub returns-clause-polls : goal.returns-clause-polls
returns-clause-polls c = λ tested time. stays_if_not_empty _ _ _ _ _ _ _ _ _ _ tested time (search) c.if-collected.false (c.deliver.ensures.by_index _)
