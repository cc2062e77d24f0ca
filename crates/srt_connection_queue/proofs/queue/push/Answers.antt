-- `push` meets its contract: the laws `push_refused` and `push_accepted`.
use Rattle.std.proofs.Common.{◌≡◌, ◌+◌, ◌%◌}
use Rattle.srt_group_model.specs.Validity.{max_queued}
use Rattle.srt_connection_queue.specs.Rows.{first_event_part}
use native.Mathlib.Omega.{arith}
use Rattle.srt_connection_queue.specs.Laws.Queue.{push_refused, push_accepted}
use Rattle.srt_connection_queue.proofs.queue.push.Goals as goal

pub returns-then-ring-ge-MAX_QUEUED : goal.returns-then-ring-ge-MAX_QUEUED
returns-then-ring-ge-MAX_QUEUED c =
    push_refused c.args.row.now c.told-row
    c.ring_of-ring.result c.ring_of-ring.ensures
    c.args.event (omega arith)

pub returns : goal.returns
returns c =
    let ring = c.ring_of-ring.result in
    let at : c.slot.result ≡ first_event_part + (ring.start % max_queued + ring.length) % max_queued = omega (arith, c.slot.ensures.0) in
    rw (c.put_ring.ensures, c.put_event_part.ensures, at) (push_accepted c.args.row.now c.told-row ring c.ring_of-ring.ensures c.args.event (omega arith))
