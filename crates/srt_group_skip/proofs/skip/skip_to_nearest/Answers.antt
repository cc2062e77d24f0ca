-- `skip_to_nearest` meets its contract: nothing is held, or the base goes to the nearest packet, which is delivered.
use Rattle.srt_group_skip.specs.Laws.Skip.{deliverable_skipped, none_to_skip_to, skipped_to}
use Rattle.srt_group_skip.specs.Laws.SkipUsed.{follows_skipped}
use Rattle.srt_group_skip.proofs.skip.skip_to_nearest.Goals as goal

pub returns-in_default-clause-by_index : goal.returns-in_default-clause-by_index
returns-in_default-clause-by_index c = search none_to_skip_to

pub deliver-requires : goal.deliver-requires
deliver-requires c = deliverable_skipped _ _ _ _ _ _ c.skip_to-skipped.ensures c.requires

-- `skipped_to` is written out so that an invented count is refused by the base that differs, not by a search that ends
pub returns : goal.returns
returns c = record {
  by_index = λ ws tested time.
      let here = c.deliver.ensures.by_index ws in
      skipped_to c.args.core _ _ ws c.nearest-nearest.ensures _ c.in-Some.is c.sequence_at-next.ensures _ _ _ _ tested time c.args.base
      c.skip_to-skipped.ensures here;
  follows = search follows_skipped;
}
