-- `give_next` meets its contract: an event waits, or the next packet is given.
use native.Mathlib.Omega.{arith}
use Rattle.srt_group_polls.specs.Laws.Refresh.{usable_refreshed}
use Rattle.srt_group_polls.specs.Laws.EventPoll.{event_next, packet_next}
use Rattle.srt_group_skip.specs.Laws.SkipUsed.{follows_given}
use Rattle.srt_group_polls.specs.Laws.PollsUsed.{follows_refreshed}
use Rattle.srt_group_collecting.specs.Laws.Follows.{follows_then}
use Rattle.srt_group_polls.proofs.polls.give_next.Goals as goal

pub returns-then-here-gt0 : goal.returns-then-here-gt0
returns-then-here-gt0 c =
    let given = c.give_waiting.ensures in record { polls_from = event_next _ _ _ _ _ _ _ _ _ (search) (search) (given _ _); follows = follows_given _ _ _ _ _ _ _ (search) (given _ _) }

pub refresh_unless_quiet-refreshed-requires : goal.refresh_unless_quiet-refreshed-requires
refresh_unless_quiet-refreshed-requires c =
    let usable = c.requires.usable in record { long = omega (arith, usable.members_long, usable.members_few); known = c.requires.known c.if-here-gt0.false }

pub deliver_next-requires-clause-usable : goal.deliver_next-requires-clause-usable
deliver_next-requires-clause-usable c = usable_refreshed _ c.requires.sending_fit _ _ _ _ c.requires.usable _ _ c.refresh_unless_quiet-refreshed.ensures

pub returns : goal.returns
returns c =
    let refreshed = c.refresh_unless_quiet-refreshed.ensures in
    record {
      polls_from = packet_next _ _ _ _ _ _ _ _ _ _ _ _ _ (omega (arith, c.if-here-gt0.false)) refreshed c.deliver_next.ensures.polls_from;
      follows = follows_then (follows_refreshed _ _ _ _ _ _ _ c.told-used refreshed) c.deliver_next.ensures.follows;
    }
