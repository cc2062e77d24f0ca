-- `queue_event` meets its contract: 5, 6, and then what follows them.
use Rattle.std.proofs.lemmas.Result.{err_from_is_err_and}
use Rattle.srt_group_model.specs.Lent.{call_queue_event}
use Rattle.srt_group_shown.specs.Tables.{tables}
use Rattle.srt_group.specs.Made.{parts_of}
use Rattle.srt_group_shown.specs.Laws.Steps.{rows_unbroken, nothing_delivered}
use Rattle.srt_group_queueing.specs.Laws.Events.{event_call}
use Rattle.srt_group_refusals.specs.Promised.{nothing_lent}
use Rattle.srt_group_refusals.specs.Laws.Begins.{begun_unbroken}
use Rattle.srt_group_refusals.specs.Laws.Promised.{promised_steps}
use Rattle.srt_group_queueing.specs.Laws.Calls.{one_member_refused}
use Rattle.srt_group_queueing.proofs.calls.queue_event.Goals as goal

pub returns-in_err-begin : goal.returns-in_err-begin
returns-in_err-begin c =
    let a = c.args in
    let p = err_from_is_err_and c.from_residual.result c.from_residual.ensures.1 in
    rw (p.1, p.2)
    (one_member_refused (event_call a.id a.kind a.reason) (parts_of a.group)
    (tables a.members.now a.pending.now a.waiting.now a.history.now a.sources.now)
    c.begin.ensures _ c.in_err-begin.was)

pub push_event-requires : goal.push_event-requires
push_event-requires c =
    let a = c.args in
    rows_unbroken
    (begun_unbroken (parts_of a.group) (tables a.members.now a.pending.now a.waiting.now a.history.now a.sources.now)
    c.begin.ensures c.in_ok-begin.was)

pub returns : goal.returns
returns c =
    let a = c.args in
    let t = tables a.members.now a.pending.now a.waiting.now a.history.now a.sources.now in
    promised_steps (call_queue_event a.id a.kind a.reason) (parts_of a.group) t nothing_lent
    c.begin.ensures c.in_ok-begin.was
    nothing_delivered
    (c.push_event.ensures.over a.group.identity a.group.sending a.group.ring a.pending.now a.waiting.now a.history.now a.sources.now
    (begun_unbroken (parts_of a.group) t c.begin.ensures c.in_ok-begin.was)).steps
