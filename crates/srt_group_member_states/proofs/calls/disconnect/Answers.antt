-- `disconnect` meets its contract: 5, 6, and then what follows them.
use native.Mathlib.Omega.{arith}
use Rattle.std.proofs.lemmas.Result.{err_from_is_err_and}
use Rattle.srt_group_model.specs.Lent.{call_disconnect}
use Rattle.srt_group_shown.specs.Tables.{tables}
use Rattle.srt_group.specs.Made.{parts_of}
use Rattle.srt_group_shown.specs.Laws.Steps.{rows_unbroken, nothing_delivered}
use Rattle.srt_group_refusals.specs.Promised.{nothing_lent}
use Rattle.srt_group_refusals.specs.Laws.Begins.{begun_unbroken}
use Rattle.srt_group_refusals.specs.Laws.Promised.{promised_steps}
use Rattle.srt_group_member_states.specs.Laws.States.{disconnect_refused, disconnected}
use Rattle.srt_group_member_states.proofs.calls.disconnect.Goals as goal

pub returns-in_err-begin : goal.returns-in_err-begin
returns-in_err-begin c =
    let a = c.args in
    let p = err_from_is_err_and c.from_residual.result c.from_residual.ensures.1 in
    rw (p.1, p.2)
    (disconnect_refused a.time.0 (parts_of a.group) (tables a.members.now a.pending.now a.waiting.now a.history.now a.sources.now) c.begin.ensures _ c.in_err-begin.was)

pub disconnect_all-requires : goal.disconnect_all-requires
disconnect_all-requires c =
    let a = c.args in
    rows_unbroken (begun_unbroken (parts_of a.group) (tables a.members.now a.pending.now a.waiting.now a.history.now a.sources.now) c.begin.ensures c.in_ok-begin.was)

pub returns : goal.returns
returns c =
    let a = c.args in
    let p = (parts_of a.group) in
    let t = (tables a.members.now a.pending.now a.waiting.now a.history.now a.sources.now) in
    promised_steps (call_disconnect a.time.0) p t nothing_lent c.begin.ensures c.in_ok-begin.was nothing_delivered
    (disconnected a.time.0 p t (begun_unbroken p t c.begin.ensures c.in_ok-begin.was) (omega (arith, c.well_formed.1.1.1.1.1.1)) _
    c.disconnect_all.ensures).steps
