-- `skip_given_up_gap` meets its contract: the base stays, or the queues are collected first.
use Rattle.srt_group_skip.specs.Laws.Skip.{gap_stays, gap_passed}
use Rattle.srt_group_collecting.specs.Laws.Follows.{follows_then}
use Rattle.srt_group_skip.proofs.skip.skip_given_up_gap.Goals as goal

pub returns-then-base_stays-clause-polls_from : goal.returns-then-base_stays-clause-polls_from
returns-then-base_stays-clause-polls_from c = let stays = c.base_stays.ensures in gap_stays _ _ _ _ _ _ _ (search) stays _ _ _ (search) (c.deliver.ensures.by_index _)

pub returns : goal.returns
returns c = record { polls_from = gap_passed _ _ _ _ _ _ _ (search) c.base_stays.ensures c.if-base_stays.false c.collect_until_empty-collected.result _ _ _ c.collect_until_empty-collected.ensures.empties _ _ _ _ c.skip_after.ensures.polls; follows = follows_then c.collect_until_empty-collected.ensures.follows c.skip_after.ensures.follows }
