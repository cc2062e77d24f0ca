-- `deliver_nearest` meets its contract: nothing is held, or the nearest packet sets the base, and is delivered.
use Rattle.srt_group_skip.specs.Laws.Skip.{none_to_deliver, delivered_first}
use Rattle.srt_group_skip.specs.Laws.SkipUsed.{follows_based}
use Rattle.srt_group_skip.proofs.skip.deliver_nearest.Goals as goal

pub returns-in_default-clause-by_index : goal.returns-in_default-clause-by_index
returns-in_default-clause-by_index c = search none_to_deliver

pub returns : goal.returns
returns c = record {
  by_index = λ ws.
      let here = c.deliver.ensures.by_index ws in
      search delivered_first;
  follows = search follows_based;
}
