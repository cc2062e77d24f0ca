-- `begin` meets its contract: 5 for the tables, then 6.
use Rattle.std.proofs.Common.{sym, ◌∙◌}
use Rattle.srt_group_refusals.specs.Laws.Begins.{are_long}
use Rattle.srt_group_refusals.proofs.refusals.LentGroup.begin.Goals as goal

pub is_broken-requires-clause-long : goal.is_broken-requires-clause-long
is_broken-requires-clause-long c = are_long _ (sym c.is_short.ensures ∙ c.if-is_short.false)
