-- `queue_data` meets its contract: 5, 6, and then the form for a valid state.
use Rattle.std.proofs.lemmas.Result.{err_from_is_err_and}
use Rattle.srt_group_shown.specs.Tables.{tables}
use Rattle.srt_group.specs.Made.{parts_of}
use Rattle.srt_group_queueing.specs.Laws.Calls.{data_refused_first, data_queued}
use Rattle.srt_group_queueing.proofs.calls.queue_data.Goals as goal

pub returns-in_err-begin_stored : goal.returns-in_err-begin_stored
returns-in_err-begin_stored c =
    let a = c.args in
    let p = err_from_is_err_and c.from_residual.result c.from_residual.ensures.1 in
    rw (p.1, p.2)
    (data_refused_first a.id a.content a.payload.now (parts_of a.group)
    (tables a.members.now a.pending.now a.waiting.now a.history.now a.sources.now) a.store.now
    c.begin_stored.ensures _ c.in_err-begin_stored.was)

pub returns : goal.returns
returns c =
    let a = c.args in
    data_queued a.id a.content a.payload.now (parts_of a.group)
    (tables a.members.now a.pending.now a.waiting.now a.history.now a.sources.now) a.store.now
    c.begin_stored.ensures c.in_ok-begin_stored.was c.queue_data.ensures
