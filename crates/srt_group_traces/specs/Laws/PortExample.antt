-- A port's steps, and the claims about what it shows: the calls of the example, after a poll that was refused for a short table.
use Rattle.std.specs.Prelude.{◌≡◌, refl, List, ◌∷◌, Some}
use Rattle.std.proofs.Common.{sym, subst}
use Rattle.srt_group_model.specs.Laws.Computed.{definitions}
use Rattle.srt_group_model.specs.Lent.{call_poll_data}
use Rattle.srt_group_traces.specs.Statement.{clerk, Fair, do_call, counts_of, skipped_in, Delivery, pass_to}
use Rattle.srt_group_traces.specs.Port.{shows_short, Taken, refused_short, all_shown, calls_of, Performed, shown_delivery, shown_deliveries, shown_told, last_shown, first_shown, SkipsShown, place_shown}
use Rattle.srt_group_traces.specs.Laws.Port.{taking, taking_performs, calls_of_taking, port_has_clerks_list, port_skips}
use Rattle.srt_group_traces.specs.Laws.Example.{group, store_0, store_1, store_2, store_3, output, sends, plain, schedule, runs, calls, fair}
use Rattle.srt_group_model.specs.Calls.{new}

-- a poll that is refused for a short table, and then the calls of the example
unfoldable pub steps : List Taken
steps = refused_short (plain (call_poll_data 0)) (shows_short (plain (call_poll_data 0)) (new group)) ∷ taking calls (new group)

pub performed : Performed (new group) steps
unfolding steps
performed = (refl, taking_performs calls (new group))

-- the calls that the theorem is applied to are those of the example
pub same_calls : calls_of steps ≡ calls
unfolding steps calls_of
same_calls = calls_of_taking calls (new group)

-- So the list that it shows is the clerk's, who was told of the refusal too.
pub clerks_list : (left : List Delivery) × (pass_to schedule (place_shown group steps) ≡ Some left)
    × (clerk schedule 0 (shown_told (all_shown steps)) ≡ Some record { gave = shown_deliveries (all_shown steps); left = left })
clerks_list =
    port_has_clerks_list schedule 100 runs group steps performed (subst (Fair schedule 100 group) (sym same_calls) fair)

-- what it shows as the first value of the base, and as delivered and skipped
pub first_value : first_shown (all_shown steps) ≡ Some 100
unfolding definitions group calls store_0 store_1 store_2 store_3 output sends steps taking all_shown first_shown shown_delivery do_call counts_of
first_value = refl

pub skipped_one : skipped_in (last_shown (new group) (all_shown steps)) ≡ 1
unfolding definitions group calls store_0 store_1 store_2 store_3 output sends steps taking all_shown last_shown do_call
skipped_one = refl

pub each_skip_right : SkipsShown (new group) steps
each_skip_right = port_skips group steps performed
