-- `take_front` meets its contract, for each answer of the leg.
use Rattle.std.proofs.Common.{◌∙◌, ap}
use Rattle.srt_group_model.specs.Members.{id_of}
use Rattle.srt_group_collecting.specs.Laws.Visit.{visits_nothing, visits_spent, visits_event, collectable}
use Rattle.srt_group_collecting.specs.Laws.Used.{follows_nothing, follows_spent, follows_event}
use Rattle.srt_group_collecting.proofs.collecting.take_front.Goals as goal

pub collect_member_event-after-requires : goal.collect_member_event-after-requires
collect_member_event-after-requires c = let polled = c.poll_event_for_group_at.ensures in collectable _ _ _ _ c.requires.usable _ c.requires.index_lt_members.0 _ _ _ _ _ _ _ c.turn_past-next.ensures polled.changed c.in-Event.is polled.gave c.requires.index_lt_members.1

pub returns-in-Nothing : goal.returns-in-Nothing
returns-in-Nothing c =
    let long = c.told-used in record { visits = search visits_nothing; follows = search follows_nothing }

pub returns-in-Continuation : goal.returns-in-Continuation
returns-in-Continuation c =
    let long = c.told-used in record { visits = search visits_spent; follows = search follows_spent }

pub returns-in-Event : goal.returns-in-Event
returns-in-Event c =
    let polled = c.poll_event_for_group_at.ensures in
    let told = c.in-Event.is in
    let turned = c.turn_past-next.ensures in
    let whose = c.member_id-id.ensures ∙ ap id_of c.row.ensures in record { visits = visits_event _ _ _ _ _ _ _ polled.changed _ _ _ _ _ _ _ turned told polled.gave whose c.collect_member_event-after.ensures.collected; follows = follows_event _ _ _ _ _ _ _ polled.changed _ _ _ _ _ _ _ _ _ c.requires.index_lt_members.0 turned told polled.gave whose c.collect_member_event-after.ensures.collected c.collect_member_event-after.ensures.freed }
