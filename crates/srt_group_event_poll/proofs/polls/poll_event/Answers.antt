-- `poll_event` meets its contract.
use native.Mathlib.Omega.{arith}
use Rattle.srt_group_data_poll.specs.Laws.Polling.{usable, sending_fits}
use Rattle.srt_group_event_poll.specs.Laws.Polling.{writable, performed}
use Rattle.srt_group_event_poll.proofs.polls.poll_event.Goals as goal

pub poll_event-polled-requires : goal.poll_event-polled-requires
poll_event-polled-requires c = record { usable = search usable; sending_fit = search sending_fits }

pub write_payload-requires : goal.write_payload-requires
write_payload-requires c =
    writable _ _ _ _ _ c.poll_event-polled.ensures.by_index
    _ c.packet_in.ensures c.requires.ready c.requires.output_size_in_bounds

pub returns : goal.returns
returns c =
    performed _ _ _ _ _ c.poll_event-polled.ensures.by_index c.args.store.now c.args.output.now _ c.requires.ready c.requires.output_size_in_bounds
    _ _ (omega (arith, c.well_formed.1.1.1.1.1.1.1.1.1.0))
    c.poll_event-polled.ensures.follows c.packet_in.ensures c.write_payload.ensures
