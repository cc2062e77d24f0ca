-- `id_twice` meets its contract. The loop's invariant: the ids before `index` are distinct, and the place of each is taken.
use Rattle.srt_group_rules.specs.Ids.{id_at, TakenBefore}
use Rattle.srt_group_rules.specs.Laws.Ids.{Apart}
use Rattle.srt_group_rules.proofs.ids.id_twice.Given as goal

abbrev pub invariant-loop-index : goal.invariant-loop-index
invariant-loop-index l = Apart (id_at l.rows) l.index × TakenBefore l.rows l.index l.table
