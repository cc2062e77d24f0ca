-- `poll_until_data` meets its contract. The loop's invariant: what is left of the event polls gives what all of them give (`Passing`).
use Rattle.std.proofs.Common.{◌≡◌, ◌+◌, ◌-◌}
use native.Mathlib.Omega.{arith}
use Rattle.srt_group_polls.specs.Laws.DataPoll.{passing_start, passing_on, passing_ended, passing_spent}
use Rattle.srt_group_polls.specs.Laws.PollsUsed.{follows_ended}
use Rattle.srt_group_collecting.specs.Laws.Follows.{follows_same, follows_then}
use Rattle.srt_group_collecting.specs.Leaves.{sends}
use Rattle.srt_group_polls.proofs.polls.poll_until_data.Goals as goal

pub loop-visit-init : goal.loop-visit-init
loop-visit-init c =
    let long = c.told-used in
    let none_yet : c.args.visits - 0 ≡ c.args.visits = omega arith in (rw none_yet (search passing_start), search follows_same)

pub returns-in-Some : goal.returns-in-Some
returns-in-Some c =
    let args = c.args in
    let loop = c.loop-visit in record {
      polls_data = passing_ended (sends args.sending) args.time.0 args.visits args.core args.members.now args.pending.now args.waiting.now
          _ loop.here _ _ _ loop.invariant.0 (omega arith) c.poll_event-poll.result _ _ _ c.poll_event-poll.ensures.by_index
          c.in-Some.answer c.in-Some.ensures;
      follows = follows_ended _ _ _ _ _ _ _ _ _ c.in-Some.ensures (follows_then loop.invariant.1 c.poll_event-poll.ensures.follows);
    }

pub loop-visit-preserved : goal.loop-visit-preserved
loop-visit-preserved c =
    let args = c.args in
    let loop = c.loop-visit in
    let one_less : args.visits - (loop._visit + 1) ≡ args.visits - loop._visit - 1 = omega arith in (
      rw one_less (passing_on (sends args.sending) args.time.0 args.visits args.core args.members.now args.pending.now args.waiting.now
          _ loop.here _ _ _ loop.invariant.0 (omega arith) c.poll_event-poll.result _ _ _ c.poll_event-poll.ensures.by_index
          c.in_default.ensures),
      follows_then loop.invariant.1 c.poll_event-poll.ensures.follows,
    )

pub returns : goal.returns
returns c =
    let args = c.args in
    let loop = c.loop-visit in record {
      polls_data = passing_spent (sends args.sending) args.time.0 args.visits args.core args.members.now args.pending.now args.waiting.now
          _ loop.here _ _ _ loop.invariant.0 (omega arith);
      follows = loop.invariant.1;
    }
