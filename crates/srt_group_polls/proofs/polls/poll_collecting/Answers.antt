-- `poll_collecting` meets its contract: the refresh or none, the visits, and what is given then.
use native.Mathlib.Omega.{arith}
use Rattle.srt_group_polls.specs.Laws.EventPoll.{usable_begun, polls_event}
use Rattle.srt_group_polls.specs.Laws.PollsUsed.{follows_begun}
use Rattle.srt_group_polls.specs.Laws.Quiet.{known_begun, known_gathered}
use Rattle.srt_group_collecting.specs.Laws.Follows.{follows_then}
use Rattle.srt_group_polls.proofs.polls.poll_collecting.Goals as goal

pub settle_unless_quiet-begun-requires : goal.settle_unless_quiet-begun-requires
settle_unless_quiet-begun-requires c =
    let usable = c.requires.usable in record { long = omega (arith, usable.members_long, usable.members_few); known = c.requires.known }

pub collect_until_held-gathered-requires : goal.collect_until_held-gathered-requires
collect_until_held-gathered-requires c =
    usable_begun _ c.requires.sending_fit c.args.core _ _ _ c.requires.usable _ _ c.settle_unless_quiet-begun.ensures

pub give_next-requires-clause-known : goal.give_next-requires-clause-known
give_next-requires-clause-known c =
    let known = known_begun _ _ c.requires.known _ _ _ c.settle_unless_quiet-begun.ensures in
    λ none_waits. known_gathered _ _ known _ _ _ _ _ _ _ c.collect_until_held-gathered.ensures.gathers none_waits

pub returns : goal.returns
returns c =
    let begun = c.settle_unless_quiet-begun.ensures in
    let gathered = c.collect_until_held-gathered in
    let given = c.give_next.ensures in
    record {
      by_index = polls_event _ _ c.args.core _ _ _ _ _ begun gathered.result _ _ _ gathered.ensures.gathers _ _ _ _ given.polls_from;
      follows = follows_then (follows_begun _ c.args.core _ _ _ _ _ c.told-used begun) (follows_then gathered.ensures.follows given.follows);
    }
