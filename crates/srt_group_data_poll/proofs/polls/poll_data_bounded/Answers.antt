-- `poll_data_bounded` meets its contract.
use borrow.Author.Rules.{rules}
use native.Mathlib.Omega.{arith}
use Rattle.srt_group_data_poll.specs.Laws.Polling.{usable, sending_fits, writable, performed}
use Rattle.srt_group_data_poll.proofs.polls.poll_data_bounded.Goals as goal

pub poll_data_bounded-polled-requires : goal.poll_data_bounded-polled-requires
poll_data_bounded-polled-requires c = record { usable = search usable; sending_fit = search sending_fits }

pub write_payload-requires : goal.write_payload-requires
write_payload-requires c = search (rules, writable)

pub returns : goal.returns
returns c =
    performed _ _ _ _ _ _ c.poll_data_bounded-polled.ensures.polls_data c.args.store.now c.args.output.now _ c.requires.ready c.requires.output_size_in_bounds
    _ _ (omega (arith, c.well_formed.1.1.1.1.1.1.1.1.1.0))
    c.poll_data_bounded-polled.ensures.follows c.write_payload.ensures
