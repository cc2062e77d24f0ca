-- `send` meets its contract: 5 for the list, 5 and 6 as the calls that are lent a store, and then the form for a valid state.
use borrow.Author.Tests.{lt-ltb, le-ltb}
use lib.ListN.{length}
use Rattle.srt_group_model.specs.Sending.{list_size}
use Rattle.srt_group_shown.specs.Tables.{tables}
use Rattle.srt_group.specs.Made.{parts_of}
use Rattle.srt_group_send_calls.specs.Laws.Promised.{list_refused, send_refused, send_performed}
use Rattle.srt_group_send_calls.proofs.calls.send.Goals as goal

pub returns-then-list-lt-SENT_LENGTH : goal.returns-then-list-lt-SENT_LENGTH
returns-then-list-lt-SENT_LENGTH c =
    let a = c.args in
    rw c.refused.ensures
    (list_refused a.time.0 a.payload.now (parts_of a.group)
    (tables a.members.now a.pending.now a.waiting.now a.history.now a.sources.now) a.store.now a.list.now
    (lt-ltb (length a.list.now) list_size c.if-list-lt-SENT_LENGTH.true))

pub returns-in-Err : goal.returns-in-Err
returns-in-Err c =
    let a = c.args in
    rw c.refused-in-Err.ensures
    (send_refused a.time.0 a.payload.now (parts_of a.group)
    (tables a.members.now a.pending.now a.waiting.now a.history.now a.sources.now) a.store.now a.list.now
    c.begin_stored.ensures (le-ltb (length a.list.now) list_size c.if-list-lt-SENT_LENGTH.false) _ c.in-Err.is)

pub returns : goal.returns
returns c =
    let a = c.args in
    send_performed a.time.0 a.payload.now (parts_of a.group)
    (tables a.members.now a.pending.now a.waiting.now a.history.now a.sources.now) a.store.now a.list.now
    c.begin_stored.ensures c.in_default.is c.send.ensures
