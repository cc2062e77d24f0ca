-- `front` meets its contract: the front stands at the ring's start (`front_is`).
use Rattle.std.proofs.Common.{◌≡◌, sym, arith, ◌+◌, ◌%◌}
use Rattle.srt_group_model.specs.Validity.{max_queued}
use Rattle.srt_connection_queue.specs.Rows.{first_event_part}
use Rattle.srt_connection_queue.specs.Laws.Queue.{front_is}
use Rattle.srt_connection_queue.proofs.queue.front.Goals as goal

pub returns : goal.returns
returns c =
    let ring = c.ring_of-ring.result in
    let at : c.slot.result ≡ first_event_part + ring.start % max_queued = omega (arith, c.slot.ensures.0) in
    rw (c.event_part.ensures, at) (sym (front_is c.args.row.now c.told-row ring c.ring_of-ring.ensures (λ e. omega (arith, c.if-ring-eq0.false))))
