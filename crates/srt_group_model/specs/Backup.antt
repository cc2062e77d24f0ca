-- Backup: the carrier that fell silent, the take-over with its replay, the history, one send, and the readiness tests. From
-- send.rs: `demote_stale_backup_carrier`, `take_over_backup_flight`, `record_backup_send`, `trim_backup_history`,
-- `send_backup`, `backup_send_ready`; document 01, "Stability timeout", codes 22 and 24 to 29, P8 and P9.
use Rattle.std.specs.Prelude.{Bool, true, false, not, ◌&&◌, ◌||◌, List, [], ◌∷◌, ◌++◌, ℕ, ◌+◌, ◌*◌, max, min, leb, ltb, eqb, length, drop, None, Option, Some}
use Rattle.srt_protocol.specs.Time.{elapsed}
use Rattle.srt_protocol.specs.Sequence.{sequence_before, sequence_further}
use Rattle.srt_group_model.specs.Tools.{if_true◌then◌else◌, if_some◌give◌otherwise◌, bit, is_set, or_else, any, at_place, change}
use Rattle.srt_group_model.specs.State.{Member, Send, State, next_send_sequence, backup_carrier, with_send, with_members, with_leg, turned, active_state, standby_state, unstable_state, send_side, with_carrier, with_gap, entry_of}
use Rattle.srt_group_model.specs.Legs.{has_sender, remaining_window_packets, can_send, can_send_with_pacing, time_until_send, oldest_unacked_sequence, send_shared_with_sequence, synchronize_send_sequence}
use Rattle.srt_group_model.specs.Members.{id_of, find, in_state, is_standby, first_active, promotion, promote_backup_member, promote_if_none, align_member_sequence}
use Rattle.srt_group_model.specs.Sending.{Sent, own_send, Flow, goes_on, ends_with, ◌and_then◌, mark_send_failure, sequence_for_send, sequence_mismatch, with_send_number}
use Rattle.srt_group_model.specs.declared.Leg.{Leg}
use Rattle.srt_group_model.specs.declared.Entry.{Entry}

-- ---- a carrier that fell silent

-- the larger of 60,000 and 2·srtt + 4·rttvar, in microseconds
unfoldable pub stability_timeout : Leg → ℕ
stability_timeout l = max 60000 (2 * l.trip.srtt + 4 * l.trip.rttvar)

-- Data is outstanding and silence exceeds the timeout. Silence is counted from the oldest send time or, if that is later, from
-- when the peer was last heard; a clock gone back counts as silence 0.
unfoldable pub is_stale : ℕ → Leg → Bool
is_stale time l =
    has_sender l
    && (ltb 0 l.sender.flight && ltb (stability_timeout l) (elapsed (max l.trip.heard.0 l.sender.oldest.0) time))

-- the first active member turns Unstable, if it is stale and a connected Standby exists
unfoldable pub demote_stale_backup_carrier : ℕ → List Member → List Member
demote_stale_backup_carrier time ms =
    if_some first_active ms
    give
    (λ i.
    change i (λ m. if_true any is_standby ms && is_stale time m.leg then turned unstable_state m else m) ms)
    otherwise ms

-- ---- the history

-- without the entries at the front that are before a sequence
unfoldable pub drop_before : ℕ → List Entry → List Entry
drop_before sequence [] = []
drop_before sequence (e ∷ es) = if_true sequence_before e.sequence sequence then drop_before sequence es else e ∷ es

-- the front of the history is after the oldest unacknowledged: older ones were lost
unfoldable pub starts_after : ℕ → List Entry → Bool
starts_after sequence h = if_some at_place 0 h give (λ e. sequence_before sequence e.sequence) otherwise false

-- what the carrier's leg has had acknowledged is dropped
unfoldable pub trim_backup_history : Leg → Send → Send
trim_backup_history l x =
    if_true has_sender l
    then
    (let oldest = oldest_unacked_sequence l in
    let h = drop_before oldest x.history in
    send_side (with_gap (bit (starts_after oldest h)) x.numbers) h)
    else x

-- by what the carrier's leg says, if the group has a carrier that is a member
unfoldable pub trim_by_carrier : State → State
trim_by_carrier s =
    if_some backup_carrier s.send
    give
    (λ id.
    if_some find id s.members
    give
    (λ i.
    if_some at_place i s.members give (λ m. with_send (trim_backup_history m.leg s.send) s) otherwise s)
    otherwise s)
    otherwise s

abbrev pub max_history : ℕ
max_history = 512

-- the send's carrier and payload are noted; a full history loses its oldest entry
unfoldable pub append_history : ℕ → Entry → Send → Send
append_history carrier e x =
    send_side (with_carrier carrier x.numbers)
    ((if_true leb max_history (length x.history) then drop 1 x.history else x.history) ++ (e ∷ []))

-- the payload is kept until its carrier's peer acknowledges it
unfoldable pub record_backup_send : Member → Entry → Send → Send
record_backup_send m e x = trim_backup_history m.leg (append_history (id_of m) e x)

-- ---- the take-over

-- A step on the member at a place, as it is by now. A search in these members gave the place, and a take-over removes no
-- member: no state comes to the refusal (laws/Frame, `searched_place_taken`). It is 24, as with no active member.
abbrev pub with_member_at : ℕ → (Member → State → Flow) → State → Flow
with_member_at i step s = if_some at_place i s.members give (λ m. step m s) otherwise ends_with 24 s

-- another member carried the last send
unfoldable pub takes_over : ℕ → Send → Bool
takes_over id x = if_some backup_carrier x give (λ carrier. not (eqb carrier id)) otherwise false

-- a replay under way: the leg, the sends, and whether all were sent
pub record Replayed : Type 0 where
  pub leg : Leg
  pub sends : List Sent
  pub whole : Bool

unfoldable pub replay_entries : (time id : ℕ) → List Entry → Leg → Replayed
replay_entries time id [] l = record { leg = l; sends = []; whole = true }
replay_entries time id (e ∷ es) l =
    if_some send_shared_with_sequence time e.length e.sequence l
    give
    (λ sent.
    let rest = replay_entries time id es sent in
    record {
      leg = rest.leg;
      sends = record { leg = id; sequence = e.sequence; cell = e.cell; source = e.source.0; time = time } ∷ rest.sends;
      whole = rest.whole;
    })
    otherwise record { leg = l; sends = []; whole = false }

abbrev pub put_leg : ℕ → Leg → State → State
put_leg i l s = with_members (change i (with_leg l) s.members) s

-- The flight is replayed on a leg that stands at its first sequence: 28 without room for one more than all, or if a send fails.
unfoldable pub replay_on : (time place : ℕ) → Member → Leg → State → Flow
replay_on time i m l s =
    let played = replay_entries time (id_of m) s.send.history l in
    if_true leb (remaining_window_packets l) (length s.send.history)
    then ends_with 28 (put_leg i l s)
    else record { state = put_leg i played.leg s; sends = played.sends; code = if_true played.whole then 0 else 28 }

-- 28 with a gap, or if the leg cannot be brought to the first sequence
unfoldable pub replay_flight : (time place : ℕ) → Member → Entry → State → Flow
replay_flight time i m first s =
    if_true is_set s.send.numbers.gap
    then ends_with 28 s
    else
    (if_true has_sender m.leg && eqb m.leg.sender.next first.sequence
    then replay_on time i m m.leg s
    else
    (if_some synchronize_send_sequence first.sequence m.leg
    give (λ l. replay_on time i m l s)
    otherwise ends_with 28 s))

-- with nothing to replay the leg is aligned to the group's send number, once there is one: 22
unfoldable pub align_carrier : ℕ → State → Flow
align_carrier i s =
    if_true is_set s.send.numbers.numbered
    then
    (if_some align_member_sequence (next_send_sequence s.send) i s.members
    give (λ ms. goes_on (with_members ms s))
    otherwise ends_with 22 s)
    else goes_on s

-- The member at a place is made ready to carry the next send: the flight of the carrier before it, as far as it is not
-- acknowledged, is replayed at the same sequences.
unfoldable pub take_over_backup_flight : (time place : ℕ) → State → Flow
take_over_backup_flight time i =
    with_member_at i
    (λ m s.
    if_true takes_over (id_of m) s.send
    then
    (let trimmed = trim_by_carrier s in
    if_some at_place 0 trimmed.send.history
    give (λ first. replay_flight time i m first trimmed)
    otherwise align_carrier i trimmed)
    else align_carrier i s)

-- ---- one send

-- the call's own payload on the member at a place, recorded in the history under the cell; a failure ends as `failed` says
unfoldable pub send_own : (time size cell sequence place : ℕ) → (Member → State → Flow) → State → Flow
send_own time size cell sequence i failed =
    with_member_at i
    (λ m s.
    if_some send_shared_with_sequence time size sequence m.leg
    give
    (λ l.
    let numbered = with_send_number (sequence_further sequence 1) (put_leg i l s) in
    record {
      state = with_send (record_backup_send (with_leg l m) (entry_of sequence cell size time) numbered.send) numbered;
      sends = own_send time sequence m ∷ [];
      code = 0;
    })
    otherwise failed m s)

-- After a failed send the leg is marked and another promoted: 27 if none is active, 28 or 22 in its take-over, 29 if it fails.
unfoldable pub send_after_promotion : (time size cell sequence place : ℕ) → Member → State → Flow
send_after_promotion time size cell sequence i failed s =
    let promoted = with_members (promote_backup_member (change i mark_send_failure s.members)) s in
    if_some first_active promoted.members
    give
    (λ j.
    take_over_backup_flight time j promoted
    and_then send_own time size cell sequence j (λ m. ends_with 29))
    otherwise ends_with 27 promoted

unfoldable pub send_at_place : (time size cell place : ℕ) → State → Flow
send_at_place time size cell i =
    with_member_at i
    (λ m s.
    let sequence = sequence_for_send s.send (m ∷ []) in
    if_true sequence_mismatch sequence (m ∷ [])
    then ends_with 25 s
    else send_own time size cell sequence i (send_after_promotion time size cell sequence i) s)

unfoldable pub send_backup : (time size cell : ℕ) → State → Flow
send_backup time size cell s =
    let ready = with_members (promote_if_none s.making.mode (demote_stale_backup_carrier time s.members)) s in
    if_some first_active ready.members
    give (λ i. take_over_backup_flight time i ready and_then send_at_place time size cell i)
    otherwise ends_with 24 ready

-- ---- readiness

-- with a time, pacing counts as well
abbrev pub ready_to_send : Option ℕ → Leg → Bool
ready_to_send None l = can_send l
ready_to_send (Some time) l = can_send_with_pacing time l

-- `backup_member_ready`: the leg could carry the next send after the take-over that it would make
unfoldable pub backup_member_ready : Option ℕ → Send → Member → Bool
backup_member_ready time x m =
    let takes = takes_over (id_of m) x in
    let replay = if_true takes then length x.history else 0 in
    let sequence =
    or_else (if_true takes then (if_some at_place 0 x.history give (λ e. Some e.sequence) otherwise None) else None)
    (next_send_sequence x)
    in
    ready_to_send time m.leg
    && (has_sender m.leg
    && ((not takes || (eqb replay 0 || not (is_set x.numbers.gap)))
    && (ltb replay (remaining_window_packets m.leg)
    && (if_some sequence give (λ n. eqb m.leg.sender.next n || eqb m.leg.sender.flight 0) otherwise true))))

-- the first active member if its window is open, else the one that a promotion would choose
unfoldable pub backup_send_ready : Option ℕ → State → Bool
backup_send_ready time s =
    let ready : ℕ → Bool =
    λ i. if_some at_place i s.members give (backup_member_ready time s.send) otherwise false
    in
    if_some first_active s.members
    give
    (λ i.
    if_true (if_some at_place i s.members give (λ m. can_send m.leg) otherwise false)
    then ready i
    else (if_some promotion s.members give ready otherwise false))
    otherwise false

-- the least time until a send of the Active and Standby members, 100,000 if there is none
unfoldable pub least_time : ℕ → List Member → Option ℕ
least_time time [] = None
least_time time (m ∷ ms) =
    if_true in_state active_state m || in_state standby_state m
    then
    (if_some least_time time ms
    give (λ n. Some (min (time_until_send time m.leg) n))
    otherwise Some (time_until_send time m.leg))
    else least_time time ms

unfoldable pub group_time_until_send : ℕ → List Member → ℕ
group_time_until_send time ms = if_some least_time time ms give (λ n. n) otherwise 100000
