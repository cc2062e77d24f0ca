-- A leg: document 01, "The stand-in leg". What it can do, what a send, a synchronising and a reading do to it.
use Rattle.std.specs.Prelude.{Bool, not, ◌&&◌, ◌||◌, List, [], ◌∷◌, ℕ, ◌+◌, ◌-◌, ◌^◌, leb, ltb, eqb, None, Option, Some}
use Rattle.srt_protocol.specs.Time.{later, elapsed}
use Rattle.srt_protocol.specs.Sequence.{sequence_distance, sequence_further}
use Rattle.srt_protocol.specs.declared.time.Timestamp.{Timestamp}
use Rattle.srt_group_model.specs.Tools.{if_true◌then◌else◌, first_such, flagged}
use Rattle.srt_group_model.specs.declared.Link.{Link}
use Rattle.srt_group_model.specs.declared.Sender.{Sender}
use Rattle.srt_group_model.specs.declared.Receiver.{Receiver}
use Rattle.srt_group_model.specs.declared.Trip.{Trip}
use Rattle.srt_group_model.specs.declared.Leg.{Leg}

-- ---- one part is changed

abbrev pub moment : ℕ → Timestamp
moment n = record { 0 = n }

abbrev pub on_link : (Link → Link) → Leg → Leg
on_link f l = record { link = f l.link; sender = l.sender; receiver = l.receiver; trip = l.trip }

abbrev pub on_sender : (Sender → Sender) → Leg → Leg
on_sender f l = record { link = l.link; sender = f l.sender; receiver = l.receiver; trip = l.trip }

abbrev pub on_receiver : (Receiver → Receiver) → Leg → Leg
on_receiver f l = record { link = l.link; sender = l.sender; receiver = f l.receiver; trip = l.trip }

abbrev pub on_trip : (Trip → Trip) → Leg → Leg
on_trip f l = record { link = l.link; sender = l.sender; receiver = l.receiver; trip = f l.trip }

abbrev pub with_link_state : ℕ → Leg → Leg
with_link_state n = on_link (λ x. record { state = n; peer = x.peer; limit = x.limit })

-- the sender: whether it exists, its next number, its flight and the time of the oldest send
abbrev pub with_started : ℕ → Sender → Sender
with_started n x =
    record { started = n; next = x.next; flight = x.flight; window = x.window; oldest = x.oldest; pace = x.pace }

abbrev pub with_next : ℕ → Sender → Sender
with_next n x =
    record { started = x.started; next = n; flight = x.flight; window = x.window; oldest = x.oldest; pace = x.pace }

abbrev pub with_flight : ℕ → Sender → Sender
with_flight n x =
    record { started = x.started; next = x.next; flight = n; window = x.window; oldest = x.oldest; pace = x.pace }

abbrev pub with_oldest : ℕ → Sender → Sender
with_oldest n x =
    record { started = x.started; next = x.next; flight = x.flight; window = x.window; oldest = moment n; pace = x.pace }

abbrev pub with_window : ℕ → Leg → Leg
with_window n =
    on_sender
    (λ x. record { started = x.started; next = x.next; flight = x.flight; window = n; oldest = x.oldest; pace = x.pace })

abbrev pub with_pace : ℕ → Leg → Leg
with_pace n =
    on_sender
    (λ x.
    record { started = x.started; next = x.next; flight = x.flight; window = x.window; oldest = x.oldest; pace = moment n })

abbrev pub with_receive_window : ℕ → Leg → Leg
with_receive_window n =
    on_receiver
    (λ x. record { first = x.first; window = n; latency = x.latency; reserved = x.reserved; advanced = x.advanced })

abbrev pub with_latency : ℕ → Leg → Leg
with_latency n =
    on_receiver
    (λ x. record { first = x.first; window = x.window; latency = n; reserved = x.reserved; advanced = x.advanced })

abbrev pub with_receiver_reserved : ℕ → Receiver → Receiver
with_receiver_reserved n x =
    record { first = x.first; window = x.window; latency = x.latency; reserved = n; advanced = x.advanced }

abbrev pub with_reservation : ℕ → Leg → Leg
with_reservation n = on_receiver (with_receiver_reserved n)

abbrev pub with_advanced : ℕ → Receiver → Receiver
with_advanced n x =
    record { first = x.first; window = x.window; latency = x.latency; reserved = x.reserved; advanced = n }

abbrev pub with_srtt : ℕ → Leg → Leg
with_srtt n = on_trip (λ x. record { srtt = n; rttvar = x.rttvar; heard = x.heard })

abbrev pub with_rttvar : ℕ → Leg → Leg
with_rttvar n = on_trip (λ x. record { srtt = x.srtt; rttvar = n; heard = x.heard })

abbrev pub with_heard : ℕ → Leg → Leg
with_heard n = on_trip (λ x. record { srtt = x.srtt; rttvar = x.rttvar; heard = moment n })

abbrev pub with_peer : ℕ → Leg → Leg
with_peer n = on_link (λ x. record { state = x.state; peer = n; limit = x.limit })

abbrev pub with_limit : ℕ → Leg → Leg
with_limit n = on_link (λ x. record { state = x.state; peer = x.peer; limit = n })

-- ---- what it can do

abbrev pub handshaking : ℕ
handshaking = 0

abbrev pub connected : ℕ
connected = 1

abbrev pub disconnected : ℕ
disconnected = 2

abbrev pub is_connected : Leg → Bool
is_connected l = eqb l.link.state connected

abbrev pub is_disconnected : Leg → Bool
is_disconnected l = eqb l.link.state disconnected

-- the sender exists from the first connect on
abbrev pub has_sender : Leg → Bool
has_sender l = eqb l.sender.started 1

abbrev pub next_sequence_number : Leg → Option ℕ
next_sequence_number l = flagged (has_sender l) l.sender.next

-- the peer's first sequence; 4294967295 says that there is none
abbrev pub no_sequence : ℕ
no_sequence = 4294967295

abbrev pub peer_initial_sequence : Leg → Option ℕ
peer_initial_sequence l = flagged (not (eqb l.receiver.first no_sequence)) l.receiver.first

-- window left = window - flight, least 0: subtraction of natural numbers stops there
abbrev pub remaining_window_packets : Leg → ℕ
remaining_window_packets l = l.sender.window - l.sender.flight

unfoldable pub can_send : Leg → Bool
can_send l = is_connected l && ltb 0 (remaining_window_packets l)

unfoldable pub can_send_with_pacing : ℕ → Leg → Bool
can_send_with_pacing time l = can_send l && leb l.sender.pace.0 time

abbrev pub time_until_send : ℕ → Leg → ℕ
time_until_send time l = elapsed time l.sender.pace.0

-- next - flight, modulo the sequence space
unfoldable pub oldest_unacked_sequence : Leg → ℕ
oldest_unacked_sequence l = sequence_distance l.sender.flight l.sender.next

-- source time + latency, saturating; a latency of 0 means never
unfoldable pub gives_up_at : ℕ → Leg → Option ℕ
gives_up_at source l = flagged (not (eqb l.receiver.latency 0)) (later source l.receiver.latency)

-- ---- what is done to it

-- the sender once one more has gone out: the oldest send time becomes the time if the flight was empty
abbrev pub after_send : ℕ → Sender → Sender
after_send time x =
    record {
      started = x.started;
      next = sequence_further x.next 1;
      flight = x.flight + 1;
      window = x.window;
      oldest = if_true eqb x.flight 0 then moment time else x.oldest;
      pace = x.pace;
    }

-- A send at a sequence fails unless the leg can send, the sequence is its next, and the payload is within its limit.
unfoldable pub send_shared_with_sequence : (time size sequence : ℕ) → Leg → Option Leg
send_shared_with_sequence time size sequence l =
    if_true can_send l && (eqb sequence l.sender.next && leb size l.link.limit)
    then Some (on_sender (after_send time) l)
    else None

-- refused unless the flight is empty; it sets next
unfoldable pub synchronize_send_sequence : ℕ → Leg → Option Leg
synchronize_send_sequence sequence l = if_true eqb l.sender.flight 0 then Some (on_sender (with_next sequence) l) else None

abbrev pub release_data_reservation : ℕ → Leg → Leg
release_data_reservation count l = with_reservation (l.receiver.reserved - count) l

abbrev pub add_reservation : ℕ → Leg → Leg
add_reservation count l = with_reservation (l.receiver.reserved + count) l

-- advancing records the number
abbrev pub advance_receive_sequence : ℕ → Leg → Leg
advance_receive_sequence sequence = on_receiver (with_advanced sequence)

abbrev pub disconnect_leg : Leg → Leg
disconnect_leg = with_link_state disconnected

-- A leg handed to an addition: one that is connected, or handed over disconnected, has connected and has a sender.
abbrev pub handed : Leg → Leg
handed l = on_sender (with_started (if_true eqb l.link.state handshaking then 0 else 1)) l

-- ---- readings: document 01, "Fields of 3"

-- a field by its number: the largest number that it takes, and what reading that number does
pub record Reading : Type 0 where
  pub field : ℕ
  pub largest : ℕ
  pub put : ℕ → Leg → Leg

abbrev pub largest_sequence : ℕ
largest_sequence = 2 ^ 31 - 1

abbrev pub largest_16 : ℕ
largest_16 = 2 ^ 16 - 1

abbrev pub largest_32 : ℕ
largest_32 = 2 ^ 32 - 1

abbrev pub largest_64 : ℕ
largest_64 = 2 ^ 64 - 1

-- a leg that is connected has its sender from then on
abbrev pub read_state : ℕ → Leg → Leg
read_state n l = on_sender (with_started (if_true eqb n connected then 1 else l.sender.started)) (with_link_state n l)

-- acknowledged up to n: what is left of the flight goes from n to next
abbrev pub acknowledge : ℕ → Leg → Leg
acknowledge n l = on_sender (with_flight (sequence_distance n l.sender.next)) l

-- 1 state, 2 window, 3 receive window, 4 latency, 5 acknowledged up to, 6 srtt, 7 rttvar, 8 last heard, 9 pace time, 10 peer group,
-- 11 payload limit, 12 oldest send time
unfoldable pub readings : List Reading
readings =
    record { field = 1; largest = 2; put = read_state } ∷ record { field = 2; largest = largest_16; put = with_window }
    ∷ record { field = 3; largest = largest_16; put = with_receive_window }
    ∷ record { field = 4; largest = largest_64; put = with_latency }
    ∷ record { field = 5; largest = largest_sequence; put = acknowledge }
    ∷ record { field = 6; largest = largest_32; put = with_srtt } ∷ record { field = 7; largest = largest_32; put = with_rttvar }
    ∷ record { field = 8; largest = largest_64; put = with_heard } ∷ record { field = 9; largest = largest_64; put = with_pace }
    ∷ record { field = 10; largest = largest_32; put = with_peer } ∷ record { field = 11; largest = largest_16; put = with_limit }
    ∷ record { field = 12; largest = largest_64; put = λ n. on_sender (with_oldest n) } ∷ []

-- the row of that number
unfoldable pub reading_of : ℕ → Option Reading
reading_of field = first_such (λ reading. eqb reading.field field) readings

-- 32: the leg's state goes back, or an acknowledgement is not from the oldest unacknowledged up to next
unfoldable pub goes_back : (field number : ℕ) → Leg → Bool
goes_back field number l =
    (eqb field 1 && ltb number l.link.state)
    || (eqb field 5 && not (has_sender l && leb (sequence_distance (oldest_unacked_sequence l) number) l.sender.flight))
