-- `promotion` meets its contract. The loop's invariant: `best` is the first in rank of the rows from `index` on.
use Rattle.std.proofs.Common.{arith, refl}
use Rattle.srt_group_members.specs.Laws.Rank.{ranking_on}
use Rattle.srt_group_members.proofs.promotion.promotion.Goals as goal

pub loop-index-preserved : goal.loop-index-preserved
loop-index-preserved c =
    ranking_on _ _ _ _ _ c.loop-index.invariant (omega arith) refl c.first_in_rank_with-best.ensures
