-- The give-up test, delivery and the skip: `gap_given_up`, `release_pending_reservation`, `advance_member_receive_prefix`,
-- `skip_given_up_gap`; document 01, "Delivery moves the base past the whole run" and "Skip".
use Rattle.std.specs.Prelude.{Bool, false, not, ◌||◌, List, [], ◌∷◌, ℕ, ◌+◌, min, leb, eqb, drop}
use Rattle.srt_protocol.specs.Sequence.{sequence_distance, sequence_further}
use Rattle.srt_group_model.specs.Tools.{if_true◌then◌else◌, if_some◌give◌otherwise◌, is_set, or_else, is_empty, all, first_such, at_place, change, each}
use Rattle.srt_group_model.specs.State.{Member, Receive, State, with_receive, with_members, with_waiting, with_base, with_pending, on_leg, with_own, on_account, based_at, receive_side}
use Rattle.srt_group_model.specs.Accounts.{release}
use Rattle.srt_group_model.specs.Legs.{is_disconnected, gives_up_at, release_data_reservation, advance_receive_sequence, largest_64}
use Rattle.srt_group_model.specs.Members.{has_id, find}
use Rattle.srt_group_model.specs.Nearest.{sequence_of, is_held, held_at, nearest, covered, not_covered}
use Rattle.srt_group_model.specs.Run.{Run, on_state, marking, gap_skipped, delivered}
use Rattle.srt_group_model.specs.Collecting.{Emptied, collect_until_empty}
use Rattle.srt_group_model.specs.declared.Packet.{Packet}
use Rattle.srt_group_model.specs.declared.Waiting.{Waiting}

-- ---- the give-up test

-- the leg of the packet's id, where no member has it the first leg, gives up on it
unfoldable pub leg_gives_up : ℕ → Packet → List Member → Bool
leg_gives_up time p ms =
    if_some or_else (first_such (has_id p.member) ms) (at_place 0 ms)
    give
    (λ m. if_some gives_up_at p.content.source.0 m.leg give (λ moment. leb moment time) otherwise false)
    otherwise false

-- true with no members, or if all legs are disconnected
abbrev pub given_up_for : ℕ → Packet → List Member → Bool
given_up_for time p ms = all (λ m. is_disconnected m.leg) ms || leg_gives_up time p ms

-- `gap_given_up`, for the nearest packet
unfoldable pub gap_given_up : ℕ → State → Bool
gap_given_up time s =
    if_some nearest s.receive.pending give (λ p. given_up_for time p s.members) otherwise false

-- ---- delivery

-- `release_pending_reservation`: of the group's own sum, or of the member that holds the reservation and its leg
unfoldable pub release_pending_reservation : Packet → State → State
release_pending_reservation p s =
    let count = p.content.count in
    if_true eqb p.owned 1
    then with_own (release count s.own) s
    else
    (if_some find p.member s.members
    give
    (λ i.
    with_members
    (change i
    (λ m.
    on_leg (release_data_reservation count) (on_account (release count) m))
    s.members)
    s)
    otherwise s)

unfoldable pub release_all : List Packet → State → State
release_all [] s = s
release_all (p ∷ ps) s = release_all ps (release_pending_reservation p s)

-- the base passes the whole run; held packets that start inside it vanish
unfoldable pub pass_run : ℕ → Packet → Receive → Receive
pass_run base p x =
    with_base (sequence_further base p.content.count) (with_pending (not_covered base p.content.count x.pending) x)

-- what an event poll gives
pub data Polled : Type 0 where
  nothing : Polled
  event : Waiting → Polled
  packet : Packet → Polled

pub record Poll : Type 0 where
  pub gave : Polled
  pub run : Run

-- `advance_member_receive_prefix`: every leg records how far the group has come
unfoldable pub advance_legs : ℕ → State → State
advance_legs sequence s = with_members (each (on_leg (advance_receive_sequence sequence)) s.members) s

-- what the run covers is released, the packet itself too
unfoldable pub deliver_packet : ℕ → Packet → State → State
deliver_packet base p s =
    with_receive (pass_run base p s.receive)
    (advance_legs (sequence_further base p.content.count)
    (release_all (covered base p.content.count s.receive.pending) s))

-- the packet at the base, if it is held
unfoldable pub deliver : ℕ → Run → Poll
deliver base r =
    if_some held_at base r.state.receive.pending
    give (λ p. record { gave = packet p; run = marking (delivered p) (on_state (deliver_packet base p) r) })
    otherwise record { gave = nothing; run = r }

-- ---- the skip

-- the skipped total rises by the distance, up to its ceiling; the base goes to the packet
unfoldable pub skip_to : ℕ → ℕ → Receive → Receive
skip_to base next x =
    receive_side (based_at next (min (x.numbers.skipped + sequence_distance base next) largest_64)) x.pending

-- the first waiting event is given
unfoldable pub give_waiting : Run → Poll
give_waiting r =
    if_some at_place 0 r.state.waiting
    give (λ w. record { gave = event w; run = on_state (λ s. with_waiting (drop 1 s.waiting) s) r })
    otherwise record { gave = nothing; run = r }

-- The base goes to the nearest packet, which is delivered; `tested` and `time` are those of the give-up test.
abbrev pub skip_nearest : (tested : State) (time base : ℕ) → Run → Poll
skip_nearest tested time base r =
    if_some nearest r.state.receive.pending
    give
    (λ p.
    deliver (sequence_of p)
    (marking (gap_skipped tested time (sequence_distance base (sequence_of p)))
    (on_state (λ s. with_receive (skip_to base (sequence_of p) s.receive) s) r)))
    otherwise record { gave = nothing; run = r }

-- The queues were collected after the give-up test was true of `tested`: the gap is skipped if they ended empty, no event
-- waits, and the base is still not held. The test is not repeated.
unfoldable pub skip_after : ℕ → State → ℕ → Emptied → Poll
skip_after time tested base c =
    if_true not (is_empty c.run.state.waiting)
    then give_waiting c.run
    else (if_true c.emptied then skip_nearest tested time base c.run else deliver base c.run)

abbrev pub max_visits : ℕ
max_visits = 64

-- the base is held, the continuation is asked for, or the gap is not given up
unfoldable pub base_stays : (time base : ℕ) → State → Bool
base_stays time base s =
    is_held base s.receive.pending || (is_set s.visit.continuation || not (gap_given_up time s))

unfoldable pub skip_given_up_gap : ℕ → ℕ → Run → Poll
skip_given_up_gap time base r =
    if_true base_stays time base r.state
    then deliver base r
    else skip_after time r.state base (collect_until_empty max_visits base r)
