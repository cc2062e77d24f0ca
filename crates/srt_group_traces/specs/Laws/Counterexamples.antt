-- Weaker statements are false: lists of calls, computed, that break each. A row is what a call leaves: its code, the sequence and
-- the count of the packet that it gave (0, 0: none), the skipped total, and the base plus one (0: unset).
use Rattle.std.specs.Prelude.{◌≡◌, refl, List, [], ◌∷◌, ◌++◌, ℕ, suc, replicate}
use Rattle.srt_group_model.specs.Tools.{if_some◌give◌otherwise◌}
use Rattle.srt_group_model.specs.State.{State, next_receive_sequence, Making}
use Rattle.srt_group_model.specs.Laws.State.{broadcast_mode, ordinary}
use Rattle.srt_group_model.specs.Legs.{no_sequence}
use Rattle.srt_group_model.specs.Laws.Computed.{definitions}
use Rattle.srt_group_model.specs.Lent.{Result, delivered_by, Call, call_add_member, call_remove_member_connection, call_poll_data_bounded, call_send, call_read_leg, call_queue_data, call_poll_data}
use Rattle.srt_group_traces.specs.Laws.Example.{leg, content, plain, output, sends}
use Rattle.srt_group_traces.specs.Statement.{Asked, do_call}
use Rattle.srt_group_model.specs.Calls.{new}

unfoldable pub row : Result → List ℕ
row r =
    r.code
    ∷ (if_some delivered_by r.answer give (λ p. p.content.sequence ∷ p.content.count ∷ []) otherwise (0 ∷ 0 ∷ []))
    ++ (r.state.receive.numbers.skipped
    ∷ (if_some next_receive_sequence r.state.receive give (λ base. suc base) otherwise 0)
    ∷ [])

unfoldable pub rows : List Asked → State → List (List ℕ)
rows [] s = []
rows (call ∷ more) s = row (do_call call s) ∷ rows more (do_call call s).state

-- two cells, with no length given at the start
unfoldable pub group : Making
group = ordinary broadcast_mode 0

unfoldable pub store : List ℕ
store = replicate 2912 0

abbrev pub over : Call → Asked
over call = record { call = call; lent = record { store = store; output = output; list = sends } }

-- The bound of 2^30 is not inclusive: a packet exactly 2^30 behind the base when it is collected is no late one. The packet 0,
-- delivered before, is delivered again, by a skip of 2^30.
pub exactly_half_behind :
    rows
    (plain (call_add_member 7 0 (leg 1 0 1) []) ∷ over (call_queue_data 7 (content 0 1 0) (65 ∷ [])) ∷ over (call_poll_data 9)
    ∷ over (call_queue_data 7 (content 1073741823 1 0) (66 ∷ [])) ∷ over (call_poll_data 9)
    ∷ over (call_queue_data 7 (content 0 1 0) (65 ∷ [])) ∷ over (call_poll_data 9) ∷ [])
    (new group)
    ≡ (0 ∷ 0 ∷ 0 ∷ 0 ∷ 1 ∷ []) ∷ (0 ∷ 0 ∷ 0 ∷ 0 ∷ 1 ∷ []) ∷ (0 ∷ 0 ∷ 1 ∷ 0 ∷ 2 ∷ [])
    ∷ (0 ∷ 0 ∷ 0 ∷ 0 ∷ 2 ∷ []) ∷ (0 ∷ 1073741823 ∷ 1 ∷ 1073741822 ∷ 1073741825 ∷ [])
    ∷ (0 ∷ 0 ∷ 0 ∷ 1073741822 ∷ 1073741825 ∷ []) ∷ (0 ∷ 0 ∷ 1 ∷ 2147483646 ∷ 2 ∷ []) ∷ []
unfolding definitions row rows group store output sends do_call
exactly_half_behind = refl

-- Equal bases are not equal places. After two skips of 2^30 - 1 the base is 0 again, at place 2^31: a gateway that stands at place 0
-- has the same base and another next packet.
pub equal_bases_different_places :
    rows
    (plain (call_add_member 7 0 (leg 1 0 1) []) ∷ over (call_queue_data 7 (content 1073741823 1 0) (65 ∷ [])) ∷ over (call_poll_data 9)
    ∷ over (call_queue_data 7 (content 2147483647 1 0) (66 ∷ [])) ∷ over (call_poll_data 9) ∷ [])
    (new group)
    ≡ (0 ∷ 0 ∷ 0 ∷ 0 ∷ 1 ∷ []) ∷ (0 ∷ 0 ∷ 0 ∷ 0 ∷ 1 ∷ []) ∷ (0 ∷ 1073741823 ∷ 1 ∷ 1073741823 ∷ 1073741825 ∷ [])
    ∷ (0 ∷ 0 ∷ 0 ∷ 1073741823 ∷ 1073741825 ∷ []) ∷ (0 ∷ 2147483647 ∷ 1 ∷ 2147483646 ∷ 1 ∷ []) ∷ []
unfolding definitions row rows group store output sends do_call
equal_bases_different_places = refl

-- "Whose leg is gone" asks by id: leg 7 is removed and its id added again. The packet that it left asks the new leg, which never
-- gives up, and not the first leg; once 7 is removed again, the first leg gives up on it.
pub re_added_id :
    rows
    (plain (call_add_member 8 0 (leg 1 100 1) []) ∷ plain (call_add_member 7 0 (leg 1 no_sequence 1) [])
    ∷ over (call_queue_data 7 (content 101 1 1000) (65 ∷ [])) ∷ over (call_poll_data 0) ∷ plain (call_remove_member_connection 7)
    ∷ plain (call_add_member 7 0 (leg 1 no_sequence 0) []) ∷ over (call_poll_data 2000) ∷ plain (call_remove_member_connection 7) ∷ over (call_poll_data 2000) ∷ [])
    (new group)
    ≡ (0 ∷ 0 ∷ 0 ∷ 0 ∷ 101 ∷ []) ∷ (0 ∷ 0 ∷ 0 ∷ 0 ∷ 101 ∷ []) ∷ (0 ∷ 0 ∷ 0 ∷ 0 ∷ 101 ∷ []) ∷ (0 ∷ 0 ∷ 0 ∷ 0 ∷ 101 ∷ [])
    ∷ (0 ∷ 0 ∷ 0 ∷ 0 ∷ 101 ∷ []) ∷ (0 ∷ 0 ∷ 0 ∷ 0 ∷ 101 ∷ []) ∷ (0 ∷ 0 ∷ 0 ∷ 0 ∷ 101 ∷ []) ∷ (0 ∷ 0 ∷ 0 ∷ 0 ∷ 101 ∷ [])
    ∷ (0 ∷ 101 ∷ 1 ∷ 1 ∷ 103 ∷ []) ∷ []
unfolding definitions row rows group store output sends do_call
re_added_id = refl

-- "Refused" is not "unchanged": a leg added handshaking connects; the send that follows refreshes, which sets the base to 100, and is
-- then refused with 23, since its payload is above the leg's limit of 2.
pub refused_send_sets_base :
    rows
    (plain (call_add_member 7 0 (leg 0 100 500) []) ∷ plain (call_read_leg 7 1 1) ∷ plain (call_read_leg 7 11 2)
    ∷ over (call_send 0 (1 ∷ 2 ∷ 3 ∷ [])) ∷ [])
    (new group)
    ≡ (0 ∷ 0 ∷ 0 ∷ 0 ∷ 0 ∷ []) ∷ (0 ∷ 0 ∷ 0 ∷ 0 ∷ 0 ∷ []) ∷ (0 ∷ 0 ∷ 0 ∷ 0 ∷ 0 ∷ []) ∷ (23 ∷ 0 ∷ 0 ∷ 0 ∷ 101 ∷ []) ∷ []
unfolding definitions row rows group store output sends do_call
refused_send_sets_base = refl

-- The first value of the base need stand in no state between two calls: the poll that sets it to 100 delivers in the same call.
pub first_value_unseen :
    rows
    (plain (call_add_member 7 0 (leg 0 100 500) []) ∷ plain (call_read_leg 7 1 1) ∷ over (call_queue_data 7 (content 100 1 1000) (65 ∷ []))
    ∷ over (call_poll_data 0) ∷ [])
    (new group)
    ≡ (0 ∷ 0 ∷ 0 ∷ 0 ∷ 0 ∷ []) ∷ (0 ∷ 0 ∷ 0 ∷ 0 ∷ 0 ∷ []) ∷ (0 ∷ 0 ∷ 0 ∷ 0 ∷ 0 ∷ []) ∷ (0 ∷ 100 ∷ 1 ∷ 0 ∷ 102 ∷ []) ∷ []
unfolding definitions row rows group store output sends do_call
first_value_unseen = refl

-- No leg has a first sequence: a collected packet sets the base, so "set before a packet was collected" fails, and base arithmetic
-- holds all the same: from 100 the base went 3.
pub packet_sets_base :
    rows
    (plain (call_add_member 7 0 (leg 1 no_sequence 500) []) ∷ over (call_queue_data 7 (content 100 3 1000) (65 ∷ [])) ∷ over (call_poll_data 0) ∷
    [])
    (new group)
    ≡ (0 ∷ 0 ∷ 0 ∷ 0 ∷ 0 ∷ []) ∷ (0 ∷ 0 ∷ 0 ∷ 0 ∷ 0 ∷ []) ∷ (0 ∷ 100 ∷ 3 ∷ 0 ∷ 104 ∷ []) ∷ []
unfolding definitions row rows group store output sends do_call
packet_sets_base = refl

-- No visit is allowed: no packet, though one is held.
pub no_visit :
    rows
    (plain (call_add_member 7 0 (leg 1 0 1) []) ∷ over (call_queue_data 7 (content 0 1 0) (65 ∷ [])) ∷ over (call_poll_data_bounded 9 0) ∷ over
    (call_poll_data_bounded 9 1) ∷ [])
    (new group)
    ≡ (0 ∷ 0 ∷ 0 ∷ 0 ∷ 1 ∷ []) ∷ (0 ∷ 0 ∷ 0 ∷ 0 ∷ 1 ∷ []) ∷ (0 ∷ 0 ∷ 0 ∷ 0 ∷ 1 ∷ []) ∷ (0 ∷ 0 ∷ 1 ∷ 0 ∷ 2 ∷ []) ∷ []
unfolding definitions row rows group store output sends do_call
no_visit = refl

-- A packet that a leg brought can be passed over. Both receive windows are read as 0; 101 is collected from leg 8 and held, and retired when
-- leg 8 is removed. The gap before 102 is then given up: one packet was never there, the other was retired, and the total says 2.
pub retired_is_passed_over :
    rows
    (plain (call_add_member 7 0 (leg 1 100 500) []) ∷ plain (call_add_member 8 0 (leg 1 no_sequence 500) [])
    ∷ plain (call_read_leg 7 3 0) ∷ plain (call_read_leg 8 3 0)
    ∷ over (call_queue_data 8 (content 101 1 1000) (65 ∷ [])) ∷ over (call_poll_data 1000) ∷ plain (call_remove_member_connection 8)
    ∷ over (call_queue_data 7 (content 102 1 1000) (66 ∷ [])) ∷ over (call_poll_data 1500) ∷ [])
    (new group)
    ≡ (0 ∷ 0 ∷ 0 ∷ 0 ∷ 101 ∷ []) ∷ (0 ∷ 0 ∷ 0 ∷ 0 ∷ 101 ∷ []) ∷ (0 ∷ 0 ∷ 0 ∷ 0 ∷ 101 ∷ []) ∷ (0 ∷ 0 ∷ 0 ∷ 0 ∷ 101 ∷ [])
    ∷ (0 ∷ 0 ∷ 0 ∷ 0 ∷ 101 ∷ []) ∷ (0 ∷ 0 ∷ 0 ∷ 0 ∷ 101 ∷ []) ∷ (0 ∷ 0 ∷ 0 ∷ 0 ∷ 101 ∷ [])
    ∷ (0 ∷ 0 ∷ 0 ∷ 0 ∷ 101 ∷ []) ∷ (0 ∷ 102 ∷ 1 ∷ 2 ∷ 104 ∷ []) ∷ []
unfolding definitions row rows group store output sends do_call
retired_is_passed_over = refl
