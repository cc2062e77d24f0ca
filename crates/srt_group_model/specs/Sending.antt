-- Sending: what a send attempts on a leg, and Broadcast. From `sequence_for_send`, `mark_send_failure`, `send_broadcast`;
-- document 01, "The stand-in leg" and the codes 23 to 26.
use Rattle.std.specs.Prelude.{Bool, true, false, not, ◌&&◌, List, [], ◌++◌, ℕ, ◌*◌, ltb, eqb}
use Rattle.srt_protocol.specs.Sequence.{sequence_further}
use Rattle.srt_group_model.specs.Tools.{if_true◌then◌else◌, if_some◌give◌otherwise◌, is_empty, any, such_that, at_place, each}
use Rattle.srt_group_model.specs.State.{Member, Send, State, next_send_sequence, with_send, with_members, with_leg, turned, unstable_state, broken_state, with_sending, with_number}
use Rattle.srt_group_model.specs.Legs.{is_connected, can_send, send_shared_with_sequence}
use Rattle.srt_group_model.specs.Members.{id_of, is_active}

-- a row of the lent list: one successful send. The cell is that of the history, or `own_payload` for the call's own
pub record Sent : Type 0 where
  pub leg : ℕ
  pub sequence : ℕ
  pub cell : ℕ
  pub source : ℕ
  pub time : ℕ

abbrev pub own_payload : ℕ
own_payload = 4294967295

-- the words of a row, the rows of a list (more than the sends that one call can make), and the words of the list
abbrev pub sent_row_size : ℕ
sent_row_size = 5

abbrev pub max_sent : ℕ
max_sent = 1100

abbrev pub list_size : ℕ
list_size = max_sent * sent_row_size

abbrev pub own_send : (time sequence : ℕ) → Member → Sent
own_send time sequence m =
    record { leg = id_of m; sequence = sequence; cell = own_payload; source = time; time = time }

-- a send under way: the state, the sends so far, and the code. 0 goes on; any other has ended the call, which leaves all this
pub record Flow : Type 0 where
  pub state : State
  pub sends : List Sent
  pub code : ℕ

abbrev pub goes_on : State → Flow
goes_on s = record { state = s; sends = []; code = 0 }

abbrev pub ends_with : ℕ → State → Flow
ends_with code s = record { state = s; sends = []; code = code }

infixl 15 ◌and_then◌
unfoldable pub ◌and_then◌ : Flow → (State → Flow) → Flow
x and_then f =
    let y = f x.state in
    if_true eqb x.code 0 then record { state = y.state; sends = x.sends ++ y.sends; code = y.code } else x

-- a leg that failed a send: Unstable if its window is full, else Broken
unfoldable pub mark_send_failure : Member → Member
mark_send_failure m =
    turned (if_true is_connected m.leg && not (can_send m.leg) then unstable_state else broken_state) m

-- the group's send number, else the next number of the first of these legs
unfoldable pub sequence_for_send : Send → List Member → ℕ
sequence_for_send x ms =
    if_some next_send_sequence x
    give (λ n. n)
    otherwise (if_some at_place 0 ms give (λ m. m.leg.sender.next) otherwise 0)

-- 25: one of these legs is not at the sequence
unfoldable pub sequence_mismatch : ℕ → List Member → Bool
sequence_mismatch sequence = any (λ m. not (eqb m.leg.sender.next sequence))

abbrev pub with_send_number : ℕ → State → State
with_send_number n s = with_send (with_sending (with_number n s.send.numbers) s.send) s

-- 23: the payload is above the limit of the first active leg
unfoldable pub above_limit : ℕ → List Member → Bool
above_limit size ms =
    if_some at_place 0 (such_that is_active ms) give (λ m. ltb m.leg.link.limit size) otherwise false

-- ---- Broadcast: an attempt on every active leg

unfoldable pub takes_send : (time size sequence : ℕ) → Member → Bool
takes_send time size sequence m =
    is_active m && (if_some send_shared_with_sequence time size sequence m.leg give (λ l. true) otherwise false)

unfoldable pub attempt_send : (time size sequence : ℕ) → Member → Member
attempt_send time size sequence m =
    if_true is_active m
    then
    (if_some send_shared_with_sequence time size sequence m.leg give (λ l. with_leg l m) otherwise mark_send_failure m)
    else m

unfoldable pub send_broadcast : (time size : ℕ) → State → Flow
send_broadcast time size s =
    let active = such_that is_active s.members in
    let sequence = sequence_for_send s.send active in
    let sends = each (own_send time sequence) (such_that (takes_send time size sequence) s.members) in
    let tried = with_members (each (attempt_send time size sequence) s.members) s in
    if_true is_empty active
    then ends_with 24 s
    else
    (if_true sequence_mismatch sequence active
    then ends_with 25 s
    else
    (if_true is_empty sends
    then ends_with 26 tried
    else record { state = with_send_number (sequence_further sequence 1) tried; sends = sends; code = 0 }))
