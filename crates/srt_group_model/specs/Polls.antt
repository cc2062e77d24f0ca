-- The polls: `poll_event`, `poll_data_bounded`.
use Rattle.std.specs.Prelude.{Bool, true, false, not, ℕ, zero, suc, min, eqb, None, Option, Some}
use Rattle.srt_group_model.specs.Tools.{if_true◌then◌else◌, if_some◌give◌otherwise◌, is_set, is_empty}
use Rattle.srt_group_model.specs.State.{next_receive_sequence, with_continuation}
use Rattle.srt_group_model.specs.Nearest.{sequence_of, nearest}
use Rattle.srt_group_model.specs.Run.{Run, set_base, refresh_pending_states, refresh_states}
use Rattle.srt_group_model.specs.Collecting.{collect_until_held, has_pending_data}
use Rattle.srt_group_model.specs.Delivery.{Polled, Poll, deliver, give_waiting, max_visits, skip_given_up_gap, nothing, event, packet}
use Rattle.srt_group_model.specs.declared.Packet.{Packet}

-- ---- the polls

-- `MAX_DELIVERY_PER_VISIT`
abbrev pub delivery_budget : ℕ
delivery_budget = 32

-- the nearest packet sets the base, and is delivered
abbrev pub deliver_nearest : Run → Poll
deliver_nearest r =
    if_some nearest r.state.receive.pending
    give (λ p. deliver (sequence_of p) (set_base (Some (sequence_of p)) r))
    otherwise record { gave = nothing; run = r }

-- the packet at the base; while none is set, the nearest
unfoldable pub deliver_next : ℕ → Run → Poll
deliver_next time r =
    if_some next_receive_sequence r.state.receive
    give (λ base. skip_given_up_gap time base r)
    otherwise deliver_nearest r

unfoldable pub poll_event : ℕ → Run → Poll
poll_event time r =
    let begun = refresh_pending_states record { state = with_continuation false r.state; log = r.log; budget = delivery_budget } in
    let gathered = collect_until_held max_visits begun in
    if_true not (is_empty gathered.state.waiting) then give_waiting gathered else deliver_next time (refresh_states gathered)

-- what a data poll gives: a packet or none, and whether it should be called again at once
pub record DataPoll : Type 0 where
  pub gave : Option Packet
  pub continuation : Bool
  pub run : Run

-- an event that waited is passed over
unfoldable pub pass_events : Polled → Run → DataPoll → DataPoll
pass_events nothing r later = record { gave = None; continuation = is_set r.state.visit.continuation; run = r }
pass_events (event w) r later = later
pass_events (packet p) r later = record { gave = Some p; continuation = false; run = r }

-- event polls until one gives no event, at most so many; with those spent the continuation is asked for
unfoldable pub poll_until_data : ℕ → ℕ → Run → DataPoll
poll_until_data time zero r = record { gave = None; continuation = true; run = r }
poll_until_data time (suc visits) r =
    let p = poll_event time r in
    let later = poll_until_data time visits p.run in
    pass_events p.gave p.run later

-- `poll_data_bounded`: with no visit allowed there is no packet and nothing changes
unfoldable pub poll_data_bounded : ℕ → ℕ → Run → DataPoll
poll_data_bounded time max_events r =
    if_true eqb max_events 0
    then record { gave = None; continuation = has_pending_data r.state; run = r }
    else poll_until_data time (min max_events max_visits) r
