-- `begin_stored` meets its contract: 5 for the tables, 5 for the store, then 6.
use Rattle.std.proofs.Common.{sym, ◌∙◌}
use Rattle.srt_group_refusals.specs.Laws.Begins.{are_long, unfit_is, begins_ready}
use Rattle.srt_group_refusals.proofs.refusals.LentGroup.begin_stored.Goals as goal

pub is_broken-requires-clause-long : goal.is_broken-requires-clause-long
is_broken-requires-clause-long c = are_long _ (sym c.is_short.ensures ∙ c.if-is_short.false)

pub returns : goal.returns
returns c =
    let a = c.args in
    begins_ready _ _ a.store _ (sym c.is_short.ensures ∙ c.if-is_short.false)
    (unfit_is _ _ a.store a.used.now (sym c.store_unfit.ensures ∙ c.if-store_unfit.false)) c.cells_of-cells.ensures c.is_broken.ensures c.if-is_broken.false
