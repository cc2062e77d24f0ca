-- `add_member` meets its contract: 5 of the row, 5 and 6 of the group, and then what follows them.
use native.Mathlib.Omega.{arith}
use Rattle.srt_group_shown.specs.Tables.{tables}
use Rattle.srt_group.specs.Made.{parts_of}
use Rattle.srt_group_refusals.specs.Laws.Begins.{begun_unbroken}
use Rattle.srt_group_addition.specs.Laws.Promised.{addition_refused_6, addition_promised}
use Rattle.srt_group_addition.specs.Handed.{call_of_row}
use Rattle.srt_group_refusals.specs.Laws.Promised.{row_refused}
use Rattle.srt_group_addition.proofs.calls.add_member.Goals as goal

pub returns-then-row-lt-ROW : goal.returns-then-row-lt-ROW
returns-then-row-lt-ROW c =
    let a = c.args in
    rw (c.refused.ensures.0, c.refused.ensures.1)
    (row_refused (call_of_row a.id a.weight a.row.now) (parts_of a.group) (tables a.members.now a.pending.now a.waiting.now a.history.now a.sources.now) a.row.now c.if-row-lt-ROW.true)

pub returns-in-Err : goal.returns-in-Err
returns-in-Err c =
    let a = c.args in
    rw (c.refused-in-Err.ensures.0, c.refused-in-Err.ensures.1)
    (addition_refused_6 a.id a.weight a.row.now (parts_of a.group) (tables a.members.now a.pending.now a.waiting.now a.history.now a.sources.now)
    c.if-row-lt-ROW.false c.begin.ensures _ c.in-Err.is)

pub add_leg-added-requires : goal.add_leg-added-requires
add_leg-added-requires c =
    let a = c.args in
    ((begun_unbroken (parts_of a.group) (tables a.members.now a.pending.now a.waiting.now a.history.now a.sources.now) c.begin.ensures c.in_default.is).long.members, omega (arith, c.if-row-lt-ROW.false))

pub returns : goal.returns
returns c =
    let a = c.args in
    addition_promised a.id a.weight a.row.now (parts_of a.group) (tables a.members.now a.pending.now a.waiting.now a.history.now a.sources.now)
    c.if-row-lt-ROW.false c.begin.ensures c.in_default.is _ _ c.add_leg-added.ensures
