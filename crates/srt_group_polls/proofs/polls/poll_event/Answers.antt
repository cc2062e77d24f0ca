-- `poll_event` meets its contract: a packet that can be given straight is given, or the legs are visited.
use Rattle.srt_group_polls.specs.Laws.StraightPolls.{goes_at, polls_straight, follows_straight}
use Rattle.srt_group_polls.proofs.polls.poll_event.Goals as goal

pub returns-in-Some : goal.returns-in-Some
returns-in-Some c =
    let straight = goes_at _ _ _ _ c.in-Some.is c.next_straight-next.ensures in record { by_index = polls_straight c.args.core _ _ _ c.requires.usable _ _ straight _ _ c.give_straight.ensures.given c.args.sending _; follows = follows_straight c.args.core _ _ _ c.requires.usable _ _ straight _ _ c.give_straight.ensures.given _ _ c.give_straight.ensures.freed }
