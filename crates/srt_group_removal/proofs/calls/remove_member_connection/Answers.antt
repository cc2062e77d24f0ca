-- `remove_member_connection` meets its contract: 5 for the row, 5, 6, and then what follows them.
use mathlib.Core.Path.{ap}
use Rattle.srt_group_model.specs.Lent.{call_remove_member_connection}
use Rattle.srt_group_shown.specs.Tables.{tables}
use Rattle.srt_group.specs.Made.{parts_of}
use Rattle.srt_group_refusals.specs.Laws.Begins.{begun_unbroken}
use Rattle.srt_group_refusals.specs.Laws.Promised.{row_refused}
use Rattle.srt_group_removal.specs.Laws.Connection.{any_removable}
use Rattle.srt_group_removal.specs.Laws.Calls.{removal_refused, removal_promised}
use Rattle.srt_group_removal.proofs.calls.remove_member_connection.Goals as goal

pub returns-then-row-lt-ROW-clause-promised_row : goal.returns-then-row-lt-ROW-clause-promised_row
returns-then-row-lt-ROW-clause-promised_row c =
    let a = c.args in
    rw (c.refused.ensures.0, c.refused.ensures.1)
    (row_refused (call_remove_member_connection a.id) (parts_of a.group)
    (tables a.members.now a.pending.now a.waiting.now a.history.now a.sources.now) a.row.now c.if-row-lt-ROW.true)

pub returns-in-Err-clause-promised_row : goal.returns-in-Err-clause-promised_row
returns-in-Err-clause-promised_row c =
    let a = c.args in
    removal_refused a.id (parts_of a.group)
    (tables a.members.now a.pending.now a.waiting.now a.history.now a.sources.now) a.row.now c.if-row-lt-ROW.false
    c.begin.ensures _ c.in-Err.is (ap parts_of c.refused-in-Err.ensures.0) c.refused-in-Err.ensures.1

pub remove_named-removed-requires-clause-any_removable : goal.remove_named-removed-requires-clause-any_removable
remove_named-removed-requires-clause-any_removable c =
    let a = c.args in
    any_removable
    (begun_unbroken (parts_of a.group)
    (tables a.members.now a.pending.now a.waiting.now a.history.now a.sources.now) c.begin.ensures c.in_default.is)

pub returns-clause-promised_row : goal.returns-clause-promised_row
returns-clause-promised_row c =
    let a = c.args in
    removal_promised a.id (parts_of a.group)
    (tables a.members.now a.pending.now a.waiting.now a.history.now a.sources.now) a.row.now c.if-row-lt-ROW.false
    c.begin.ensures c.in_default.is c.remove_named-removed.result _ _ _ c.remove_named-removed.ensures.steps_removal
