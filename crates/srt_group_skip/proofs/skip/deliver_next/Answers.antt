-- `deliver_next` meets its contract: the base is set, or the nearest packet sets it.
use Rattle.srt_group_skip.specs.Laws.Skip.{next_at_base, next_nearest}
use Rattle.srt_group_skip.proofs.skip.deliver_next.Goals as goal

pub returns-in-Some-clause-polls_from : goal.returns-in-Some-clause-polls_from
returns-in-Some-clause-polls_from c = next_at_base _ _ _ _ _ _ _ c.base.ensures _ _ _ _ c.in-Some.is c.skip_given_up_gap.ensures.polls_from

pub returns-in-None-clause-polls_from : goal.returns-in-None-clause-polls_from
returns-in-None-clause-polls_from c = next_nearest _ _ _ _ _ _ _ c.base.ensures _ _ (search) c.in-None.is (c.deliver_nearest.ensures.by_index _)
