-- `poll_data_bounded` meets its contract: 5 and 6, and then the form for a valid state.
use Rattle.srt_group_shown.specs.Tables.{tables}
use Rattle.srt_group.specs.Made.{parts_of}
use Rattle.srt_group_refusals.specs.Laws.Polled.{data_poll_refused, data_poll_performed}
use Rattle.srt_group_data_poll.proofs.calls.poll_data_bounded.Goals as goal

pub returns-in-Err : goal.returns-in-Err
returns-in-Err c =
    let a = c.args in
    let refused = c.refused.ensures in
    rw (refused.0, refused.1)
    (data_poll_refused a.time.0 a.max_events (parts_of a.group)
    (tables a.members.now a.pending.now a.waiting.now a.history.now a.sources.now) a.store.now a.output.now
    c.begin_poll-begun.ensures _ c.in-Err.is)

pub poll_data_bounded-poll-requires : goal.poll_data_bounded-poll-requires
poll_data_bounded-poll-requires c =
    let accepted = c.in_default.is in
    let begun = c.begin_poll-begun.ensures in record { ready = begun.ready accepted; output_size_in_bounds = begun.room accepted }

pub returns : goal.returns
returns c =
    let a = c.args in
    data_poll_performed a.time.0 a.max_events (parts_of a.group)
    (tables a.members.now a.pending.now a.waiting.now a.history.now a.sources.now) a.store.now a.output.now
    c.begin_poll-begun.ensures c.in_default.is c.poll_data_bounded-poll.ensures
