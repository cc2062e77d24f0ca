-- `refresh_member_states` meets its contract: 5, 6, and then what follows them.
use mathlib.Core.Path.{ap}
use Rattle.srt_group_model.specs.Lent.{call_refresh_member_states}
use Rattle.srt_group_shown.specs.Tables.{tables}
use Rattle.srt_group.specs.Made.{parts_of}
use Rattle.srt_group_shown.specs.Laws.Steps.{rows_unbroken, nothing_delivered}
use Rattle.srt_group_refusals.specs.Promised.{nothing_lent}
use Rattle.srt_group_refusals.specs.Laws.Begins.{begun_unbroken}
use Rattle.srt_group_refusals.specs.Laws.Promised.{promised_steps}
use Rattle.srt_group_member_states.specs.Laws.States.{refresh_refused, refreshed}
use Rattle.srt_group_member_states.proofs.calls.refresh_member_states.Goals as goal

pub returns-in-Err : goal.returns-in-Err
returns-in-Err c =
    let a = c.args in
    refresh_refused (parts_of a.group) (tables a.members.now a.pending.now a.waiting.now a.history.now a.sources.now) c.begin.ensures _ c.in-Err.is
    (ap parts_of c.refused.ensures.0) c.refused.ensures.1

pub refresh_states-core-requires : goal.refresh_states-core-requires
refresh_states-core-requires c =
    let a = c.args in
    rows_unbroken (begun_unbroken (parts_of a.group) (tables a.members.now a.pending.now a.waiting.now a.history.now a.sources.now) c.begin.ensures c.in_default.is)

pub returns : goal.returns
returns c =
    let a = c.args in
    let p = (parts_of a.group) in
    let t = (tables a.members.now a.pending.now a.waiting.now a.history.now a.sources.now) in
    promised_steps call_refresh_member_states p t nothing_lent c.begin.ensures c.in_default.is nothing_delivered
    (refreshed p t (begun_unbroken p t c.begin.ensures c.in_default.is) _ _ c.refresh_states-core.ensures).steps
