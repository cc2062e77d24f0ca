-- `promotion` meets its contract. The loop's invariant: `best` is the first in rank of the rows from `index` on.
use Rattle.srt_group_members.specs.Laws.Rank.{Ranking}
use Rattle.srt_group_members.proofs.promotion.promotion.Given as goal

abbrev pub invariant-loop-index : goal.invariant-loop-index
invariant-loop-index l = Ranking l.rows l.index l.best
