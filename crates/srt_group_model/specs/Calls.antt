-- Every public call of `SrtGroup` and of the stand-in leg: its codes in document 01's order, as a list of guards, and what it
-- does when none refuses. A refused call changes nothing; 22 to 29 come from a body, which leaves what it has done by then.
use Rattle.std.specs.Prelude.{Bool, true, false, not, ◌&&◌, ◌||◌, List, [], ◌∷◌, ◌++◌, ℕ, leb, ltb, eqb, length, None, Some}
use Rattle.srt_protocol.specs.Handshake.{has_group_mask}
use Rattle.srt_protocol.specs.Cells.{cell_size, cells_of, max_cells, output_size}
use Rattle.srt_group_model.specs.Tools.{if_true◌then◌else◌, if_some◌give◌otherwise◌, is_set, is_empty, any, first_such, change, each}
use Rattle.srt_group_model.specs.State.{Member, State, is_backup, next_send_sequence, with_members, with_peer, on_leg, with_queue, turned, pending_state, active_state, standby_state, broken_state, Making}
use Rattle.srt_group_model.specs.Accounts.{no_packets}
use Rattle.srt_group_model.specs.Legs.{reading_of, goes_back, handed, is_connected, disconnect_leg, can_send, can_send_with_pacing, has_sender, add_reservation, largest_sequence, largest_16, largest_32, largest_64}
use Rattle.srt_group_model.specs.Members.{has_id, find, is_active, has_active_member, promote_if_none, base_after, peer_after, admit_peer_group, align_member_sequence, found}
use Rattle.srt_group_model.specs.Run.{put, Run, start, set_base, refresh_states}
use Rattle.srt_group_model.specs.Collecting.{has_pending_data}
use Rattle.srt_group_model.specs.Polls.{poll_event, poll_data_bounded}
use Rattle.srt_group_model.specs.Removal.{remove_member_at, leg_given_back}
use Rattle.srt_group_model.specs.Sending.{list_size, Flow, ends_with, above_limit, send_broadcast}
use Rattle.srt_group_model.specs.Backup.{stability_timeout, demote_stale_backup_carrier, trim_by_carrier, send_backup, backup_send_ready, group_time_until_send}
use Rattle.srt_group_model.specs.Cells.{free_cell}
use Rattle.srt_group_model.specs.Validity.{above, ◌at_most◌, any_above, data_words, is_invalid, leg_out_of_range, leg_sequence_too_large, max_members, max_queued, making_words}
use Rattle.srt_group_model.specs.Guards.{Answer, no_answer, truth, number, optional, polled, data_polled, leg_back, one_member, all_members, Step, refuse, accept, ◌when◌, Check, guard, shown, About, about_group, about_time, about_member, Looking}
use Rattle.srt_group_model.specs.declared.Data.{Data}
use Rattle.srt_group_model.specs.declared.Event.{Event}
use Rattle.srt_group_model.specs.declared.Leg.{Leg}
use Rattle.srt_group_model.specs.declared.MemberShown.{MemberShown}

-- ---- the guards that calls share

-- 5: the store's length differs from the one given at the start, if any was, or is below one cell
unfoldable pub store_unfit : ℕ → State → Bool
store_unfit store s =
    (not (eqb s.making.length 0) && not (eqb store s.making.length)) || ltb store cell_size

-- 5: no room for the head and a whole payload
abbrev pub output_unfit : ℕ → Bool
output_unfit output = ltb output output_size

-- 5: fewer rows than a list has
abbrev pub list_unfit : ℕ → Bool
list_unfit list = ltb list list_size

-- the cells of a call that is lent no store: those of the length given at the start, else the most that there can be
unfoldable pub cells_given : State → ℕ
cells_given s = if_true eqb s.making.length 0 then max_cells else cells_of s.making.length

-- 6, of a call that is lent no store
abbrev pub breaks_rule : State → Bool
breaks_rule s = is_invalid (cells_given s) s

-- 3: no such member
abbrev pub is_unknown : ℕ → State → Bool
is_unknown id s = not (any (has_id id) s.members)

-- a test of the member with an id, and a change of it
unfoldable pub of_member : ℕ → (Member → Bool) → State → Bool
of_member id test s = if_some first_such (has_id id) s.members give test otherwise false

unfoldable pub change_member : ℕ → (Member → Member) → State → State
change_member id f s = if_some find id s.members give (λ i. with_members (change i f s.members) s) otherwise s

-- ---- `new`: 2 for an id or a mode out of range, 1 for an id without the mark

unfoldable pub new : Making → State
new making =
    record {
      making = making;
      peer = 0;
      receive = record { numbers = record { based = 0; base = 0; skipped = 0 }; pending = [] };
      send = record { numbers = record { numbered = 0; next = 0; carried = 0; carrier = 0; gap = 0 }; history = [] };
      visit = record { continuation = 0; round = 0 };
      own = no_packets;
      members = [];
      waiting = [];
    }

unfoldable pub new_code : Making → ℕ
new_code making =
    if_true any_above (making_words making) then 2 else (if_true has_group_mask making.id then 0 else 1)

-- ---- members

-- the state of a member at its addition
unfoldable pub state_at_addition : ℕ → Leg → List Member → ℕ
state_at_addition mode l ms =
    if_true is_backup mode
    then (if_true is_connected l && not (has_active_member ms) then active_state else standby_state)
    else (if_true is_connected l then active_state else pending_state)

unfoldable pub new_member : (id weight : ℕ) → Leg → State → Member
new_member id weight l s =
    record {
      membership =
          record {
            id = id;
            weight = weight;
            state = state_at_addition s.making.mode l s.members;
            admitted = 0;
            account = no_packets;
            collision = record { expected = 0; actual = 0 };
          };
      leg = l;
      queue = [];
    }

-- The leg is added; if it is connected it is admitted and, if that succeeds, aligned. Where alignment fails, 22, it stays added.
unfoldable pub add_body : (id weight : ℕ) → Leg → State → Step
add_body id weight l s =
    let m = new_member id weight (handed l) s in
    let r = set_base (base_after None (m ∷ [])) (start s) in
    let peer = peer_after s.peer (m ∷ []) in
    let joined = admit_peer_group peer m in
    let added = with_peer peer (with_members (s.members ++ (joined ∷ [])) r.state) in
    let left : State → ℕ → Step =
    λ t code. record { state = t; code = code; answer = no_answer; put = None; sends = []; log = r.log }
    in
    if_true eqb joined.membership.admitted 1
    then
    (if_some align_member_sequence (next_send_sequence s.send) (length s.members) added.members
    give (λ ms. left (with_members ms added) 0)
    otherwise left added 22)
    else left added 0

-- A leg handed over has an empty queue and no reservation, else 6.
unfoldable pub add_member : (id weight : ℕ) → Leg → List Event → State → Step
add_member id weight l queue s =
    guard
    ((6 when (breaks_rule s || (not (is_empty queue) || not (eqb l.receiver.reserved 0))))
    ∷ (2 when (above largest_32 id || (above largest_16 weight || (leg_out_of_range (handed l) || leg_sequence_too_large l))))
    ∷ (20 when leb max_members (length s.members)) ∷ (21 when any (has_id id) s.members) ∷ [])
    s (add_body id weight l s)

unfoldable pub mark_member_broken : (id : ℕ) → State → Step
mark_member_broken id s =
    guard ((6 when breaks_rule s) ∷ (2 when above largest_32 id) ∷ (3 when is_unknown id s) ∷ []) s
    (accept (change_member id (turned broken_state) s) no_answer)

unfoldable pub remove_body : (id : ℕ) → State → Step
remove_body id s =
    if_some found (has_id id) s.members
    give (λ f. accept (remove_member_at f.place f.member s) (leg_back (leg_given_back f.member)))
    otherwise refuse 3 s

unfoldable pub remove_member_connection : (id : ℕ) → State → Step
remove_member_connection id s =
    guard ((6 when breaks_rule s) ∷ (2 when above largest_32 id) ∷ (3 when is_unknown id s) ∷ []) s (remove_body id s)

-- a member without its queue, and of its leg the state alone
abbrev pub member_shown : Member → MemberShown
member_shown m = record { membership = m.membership; connection = m.leg.link.state }

-- `member`: its membership (state, weight, collision), and its leg's state
unfoldable pub member : (id : ℕ) → Looking
member id =
    record {
      about = about_member id;
      shows =
          λ s. one_member (if_some first_such (has_id id) s.members give (λ m. Some (member_shown m)) otherwise None);
    }

-- accepted, with the log of a call under way
abbrev pub left_by : Run → Answer → Step
left_by r answer = record { state = r.state; code = 0; answer = answer; put = None; sends = []; log = r.log }

unfoldable pub refresh_member_states : State → Step
refresh_member_states s = guard ((6 when breaks_rule s) ∷ []) s (left_by (refresh_states (start s)) no_answer)

unfoldable pub disconnect : (time : ℕ) → State → Step
disconnect time s =
    guard ((6 when breaks_rule s) ∷ (2 when above largest_64 time) ∷ []) s
    (accept (with_members (each (on_leg disconnect_leg) s.members) s) no_answer)

-- ---- receiving

unfoldable pub event_poll_body : (time : ℕ) → State → Step
event_poll_body time s = let p = poll_event time (start s) in left_by p.run (polled p.gave)

-- `poll_event`, lent a store and an output of these lengths
unfoldable pub poll_event_call : (store output time : ℕ) → State → Step
poll_event_call store output time s =
    guard
    ((5 when (store_unfit store s || output_unfit output)) ∷ (6 when is_invalid (cells_of store) s)
    ∷ (2 when above largest_64 time) ∷ [])
    s (event_poll_body time s)

unfoldable pub data_poll_body : (time max_events : ℕ) → State → Step
data_poll_body time max_events s =
    let p = poll_data_bounded time max_events (start s) in left_by p.run (data_polled p.gave p.continuation)

-- `poll_data_bounded`; `poll_data` is this with 64 visits
unfoldable pub poll_data_call : (store output time max_events : ℕ) → State → Step
poll_data_call store output time max_events s =
    guard
    ((5 when (store_unfit store s || output_unfit output)) ∷ (6 when is_invalid (cells_of store) s)
    ∷ (2 when above largest_64 time) ∷ [])
    s (data_poll_body time max_events s)

-- ---- sending

-- What a send under way leaves. A Backup send that succeeds has put its payload into the cell.
unfoldable pub left_by_send : ℕ → List ℕ → Run → Flow → Step
left_by_send cell payload r flow =
    let backup = is_backup r.state.making.mode in
    if_true eqb flow.code 0
    then
    record {
      state = flow.state;
      code = 0;
      answer = shown (number (if_true backup then 1 else length flow.sends));
      put = if_true backup then Some record { cell = cell; payload = payload } else None;
      sends = flow.sends;
      log = if_true backup then put cell payload ∷ r.log else r.log;
    }
    else
    record { state = flow.state; code = flow.code; answer = no_answer; put = None; sends = flow.sends; log = r.log }

-- 23 is tested after the refresh
unfoldable pub send_flow : (cell time : ℕ) → List ℕ → State → Run → Flow
send_flow cell time payload s r =
    let size = length payload in
    if_true above_limit size r.state.members
    then ends_with 23 r.state
    else
    (if_true is_backup s.making.mode then send_backup time size cell r.state else send_broadcast time size r.state)

unfoldable pub send_body : (cell time : ℕ) → List ℕ → State → Step
send_body cell time payload s =
    let r = refresh_states (start s) in left_by_send cell payload r (send_flow cell time payload s r)

-- 30: no free cell
abbrev pub no_free_cell : ℕ → State → Bool
no_free_cell cells s = if_some free_cell cells s give (λ cell. false) otherwise true

-- the free cell, once it is known that there is one
abbrev pub taken_cell : ℕ → State → ℕ
taken_cell cells s = if_some free_cell cells s give (λ cell. cell) otherwise 0

-- `send` and `send_shared`, lent a store and a list of these lengths
unfoldable pub send : (store list time : ℕ) → List ℕ → State → Step
send store list time payload s =
    guard
    ((5 when (store_unfit store s || list_unfit list)) ∷ (6 when is_invalid (cells_of store) s)
    ∷ (2 when above largest_64 time) ∷ (4 when above cell_size (length payload))
    ∷ (30 when (is_backup s.making.mode && no_free_cell (cells_of store) s)) ∷ [])
    s (send_body (taken_cell (cells_of store) s) time payload s)

unfoldable pub can_send_body : State → Step
can_send_body s =
    let r = refresh_states (start s) in
    if_true is_backup s.making.mode
    then
    (let t = trim_by_carrier r.state in
    record { state = t; code = 0; answer = shown (truth (backup_send_ready None t)); put = None; sends = []; log = r.log })
    else left_by r (shown (truth (any (λ m. is_active m && can_send m.leg) r.state.members)))

unfoldable pub can_send_call : State → Step
can_send_call s = guard ((6 when breaks_rule s) ∷ []) s (can_send_body s)

unfoldable pub can_send_with_pacing_body : (time : ℕ) → State → Step
can_send_with_pacing_body time s =
    let r = refresh_states (start s) in
    if_true is_backup s.making.mode
    then
    (let demoted =
    with_members (promote_if_none s.making.mode (demote_stale_backup_carrier time r.state.members)) r.state
    in
    let t = trim_by_carrier demoted in
    record {
      state = t;
      code = 0;
      answer = shown (truth (backup_send_ready (Some time) t));
      put = None;
      sends = [];
      log = r.log;
    })
    else left_by r (shown (truth (any (λ m. is_active m && can_send_with_pacing time m.leg) r.state.members)))

unfoldable pub can_send_with_pacing_call : (time : ℕ) → State → Step
can_send_with_pacing_call time s =
    guard ((6 when breaks_rule s) ∷ (2 when above largest_64 time) ∷ []) s (can_send_with_pacing_body time s)

unfoldable pub time_until_send : (time : ℕ) → Looking
time_until_send time =
    record { about = about_time time; shows = λ s. number (group_time_until_send time s.members) }

-- none for a leg without a sender
unfoldable pub backup_stability_timeout_micros : (id : ℕ) → Looking
backup_stability_timeout_micros id =
    record {
      about = about_member id;
      shows =
          λ s.
          optional
          (if_some first_such (has_id id) s.members
          give (λ m. if_true has_sender m.leg then Some (stability_timeout m.leg) else None)
          otherwise None);
    }

-- ---- looking

-- the codes of a look, by what it is about
unfoldable pub look_checks : About → State → List Check
look_checks about_group s = (6 when breaks_rule s) ∷ []
look_checks (about_time time) s = (6 when breaks_rule s) ∷ (2 when above largest_64 time) ∷ []
look_checks (about_member id) s =
    (6 when breaks_rule s) ∷ (2 when above largest_32 id) ∷ (3 when is_unknown id s) ∷ []

-- `members`: what is shown of each, in the order of addition
unfoldable pub members_call : Looking
members_call = record { about = about_group; shows = λ s. all_members (each member_shown s.members) }

unfoldable pub group_id : Looking
group_id = record { about = about_group; shows = λ s. number s.making.id }

-- 0 Broadcast, 1 Backup
unfoldable pub mode : Looking
mode = record { about = about_group; shows = λ s. number s.making.mode }

unfoldable pub peer_group_id : Looking
peer_group_id =
    record { about = about_group; shows = λ s. optional (if_true eqb s.peer 0 then None else Some s.peer) }

unfoldable pub skipped_receive_packets : Looking
skipped_receive_packets = record { about = about_group; shows = λ s. number s.receive.numbers.skipped }

unfoldable pub has_pending_data_call : Looking
has_pending_data_call = record { about = about_group; shows = λ s. truth (has_pending_data s) }

unfoldable pub has_receive_continuation : Looking
has_receive_continuation = record { about = about_group; shows = λ s. truth (is_set s.visit.continuation) }

-- ---- the stand-in leg: a reading, data and an event

-- 2: an unknown field, or a number above the field's largest
unfoldable pub reading_out_of_range : (field n : ℕ) → Bool
reading_out_of_range field n = if_some reading_of field give (λ reading. above reading.largest n) otherwise true

unfoldable pub read_field : (field n : ℕ) → Leg → Leg
read_field field n l = if_some reading_of field give (λ reading. reading.put n l) otherwise l

unfoldable pub read_leg : (id field n : ℕ) → State → Step
read_leg id field n s =
    guard
    ((6 when breaks_rule s) ∷ (2 when (above largest_32 id || reading_out_of_range field n)) ∷ (3 when is_unknown id s)
    ∷ (32 when of_member id (λ m. goes_back field n m.leg) s) ∷ [])
    s
    (accept (change_member id (on_leg (read_field field n)) s) no_answer)

abbrev pub queue_full : Member → Bool
queue_full m = leb max_queued (length m.queue)

abbrev pub enqueue : Event → Member → Member
enqueue e m = with_queue (m.queue ++ (e ∷ [])) m

-- the packet in its cell
abbrev pub data_event : (cell size : ℕ) → Data → Event
data_event cell size d =
    record {
      kind = 0;
      reason = 0;
      content =
          record {
            sequence = d.sequence;
            count = d.count;
            message = d.message;
            timestamp = d.timestamp;
            source = d.source;
            cell = cell;
            length = size;
          };
    }

-- the cell is taken, and the count added to the leg's reservation
unfoldable pub queue_data_body : (id cell : ℕ) → Data → List ℕ → State → Step
queue_data_body id cell d payload s =
    record {
      state =
          change_member id (λ m. on_leg (add_reservation d.count) (enqueue (data_event cell (length payload) d) m)) s;
      code = 0;
      answer = no_answer;
      put = Some record { cell = cell; payload = payload };
      sends = [];
      log = put cell payload ∷ [];
    }

-- 2: an id or a field of the packet out of range. Its cell and length are the call's to fill in, and are not read.
unfoldable pub data_unfit : ℕ → Data → Bool
data_unfit id d =
    eqb d.count 0
    || any_above ((id at_most largest_32) ∷ (d.sequence at_most largest_sequence) ∷ data_words d)

unfoldable pub queue_data : (store id : ℕ) → Data → List ℕ → State → Step
queue_data store id d payload s =
    guard
    ((5 when store_unfit store s) ∷ (6 when is_invalid (cells_of store) s) ∷ (2 when data_unfit id d)
    ∷ (3 when is_unknown id s) ∷ (4 when above cell_size (length payload)) ∷ (30 when no_free_cell (cells_of store) s)
    ∷ (31 when of_member id queue_full s) ∷ [])
    s
    (queue_data_body id (taken_cell (cells_of store) s) d payload s)

-- what stands in the place of data where there is none
abbrev pub no_data : Data
no_data = record { sequence = 0; count = 0; message = 0; timestamp = 0; source = record { 0 = 0 }; cell = 0; length = 0 }

-- kind 1 connected, 2 error, 3 disconnected
abbrev pub lifecycle_event : (kind reason : ℕ) → Event
lifecycle_event kind reason = record { kind = kind; reason = reason; content = no_data }

unfoldable pub queue_event : (id kind reason : ℕ) → State → Step
queue_event id kind reason s =
    guard
    ((6 when breaks_rule s) ∷ (2 when (above largest_32 id || (eqb kind 0 || (above 3 kind || above largest_32 reason))))
    ∷ (3 when is_unknown id s) ∷ (31 when of_member id queue_full s) ∷ [])
    s
    (accept (change_member id (enqueue (lifecycle_event kind reason)) s) no_answer)
