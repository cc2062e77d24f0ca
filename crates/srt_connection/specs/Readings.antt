-- Readings: document 01, "Fields of 3", with code 2 (an unknown field, or a number out of its range) before code 32 (out of
-- turn). The fields themselves are the model's `readings`.
use Rattle.srt_protocol.specs.declared.error.Error.{Error}
use Rattle.srt_connection.specs.declared.readings.Field.{Field}
use Rattle.srt_connection.specs.declared.readings.Field.TheVariants.{State, Window, ReceiveWindow, Latency, Acknowledged, Srtt, Rttvar, LastHeard, PaceTime, PeerGroup, PayloadLimit, OldestSendTime}
use Rattle.std.specs.Prelude.{◌≡◌, None, Bool, ◌&&◌, ℕ, leb, Err, Ok, Result}
use Rattle.srt_protocol.specs.Sequence.{sequence_distance}
use Rattle.srt_protocol.specs.declared.error.Error.TheVariants.{OutOfRange, OutOfTurn}
use Rattle.srt_group_model.specs.Tools.{if_true◌then◌else◌}
use Rattle.srt_group_model.specs.Legs.{Reading, largest_16, largest_32, largest_64, largest_sequence, read_state, acknowledge, on_sender, with_window, with_receive_window, with_latency, with_srtt, with_rttvar, with_heard, with_pace, with_peer, with_limit, with_oldest, has_sender, oldest_unacked_sequence, goes_back, reading_of}
use Rattle.srt_group_model.specs.Calls.{reading_out_of_range, read_field}
use Rattle.srt_group_model.specs.declared.Leg.{Leg}

-- ---- a field by its number

unfoldable pub field_number : Field → ℕ
field_number State = 1
field_number Window = 2
field_number ReceiveWindow = 3
field_number Latency = 4
field_number Acknowledged = 5
field_number Srtt = 6
field_number Rttvar = 7
field_number LastHeard = 8
field_number PaceTime = 9
field_number PeerGroup = 10
field_number PayloadLimit = 11
field_number OldestSendTime = 12

-- its row of the model's `readings`
unfoldable pub row_of : Field → Reading
row_of State = record { field = 1; largest = 2; put = read_state }
row_of Window = record { field = 2; largest = largest_16; put = with_window }
row_of ReceiveWindow = record { field = 3; largest = largest_16; put = with_receive_window }
row_of Latency = record { field = 4; largest = largest_64; put = with_latency }
row_of Acknowledged = record { field = 5; largest = largest_sequence; put = acknowledge }
row_of Srtt = record { field = 6; largest = largest_32; put = with_srtt }
row_of Rttvar = record { field = 7; largest = largest_32; put = with_rttvar }
row_of LastHeard = record { field = 8; largest = largest_64; put = with_heard }
row_of PaceTime = record { field = 9; largest = largest_64; put = with_pace }
row_of PeerGroup = record { field = 10; largest = largest_32; put = with_peer }
row_of PayloadLimit = record { field = 11; largest = largest_16; put = with_limit }
row_of OldestSendTime = record { field = 12; largest = largest_64; put = λ n. on_sender (with_oldest n) }

abbrev pub IsField : Field → ℕ → Type 0
IsField field n = n ≡ field_number field

-- no row of the model's `readings` has the number
abbrev pub NoField : ℕ → Type 0
NoField n = reading_of n ≡ None

-- from the oldest unacknowledged sequence up to next
unfoldable pub acknowledges : ℕ → Leg → Bool
acknowledges n l = has_sender l && leb (sequence_distance (oldest_unacked_sequence l) n) l.sender.flight

unfoldable pub reading : (field n : ℕ) → Leg → Result Leg Error
reading field n l =
    if_true reading_out_of_range field n
    then Err OutOfRange
    else (if_true goes_back field n l then Err OutOfTurn else Ok (read_field field n l))
