-- The call that a line of a replay listing asks of the group, by its verb: document 01, "The replay listing".
use Rattle.std.specs.Prelude.{[], ◌∷◌}
use Rattle.srt_group_model.specs.Legs.{moment}
use Rattle.srt_group_model.specs.Lent.{Call, call_add_member, call_read_leg, call_queue_data, call_poll_data, call_send, call_remove_member_connection, call_mark_member_broken, call_queue_event}
use Rattle.srt_group_model.specs.Listing.{Line, column, leg_of_line}
use Rattle.srt_group_model.specs.declared.Data.{Data}

-- 2
abbrev pub addition : Line → Call
addition line = call_add_member (column 1 line) (column 2 line) (leg_of_line line) []

-- 3
abbrev pub reading : Line → Call
reading line = call_read_leg (column 1 line) (column 2 line) (column 3 line)

-- 4: the message number and the timestamp are 0, the call fills in the cell and the length; the payload is one byte
abbrev pub data_of_line : Line → Data
data_of_line line =
    record {
      sequence = column 2 line;
      count = column 3 line;
      message = 0;
      timestamp = 0;
      source = moment (column 4 line);
      cell = 0;
      length = 0;
    }

abbrev pub queueing : Line → Call
queueing line = call_queue_data (column 1 line) (data_of_line line) (column 5 line ∷ [])

-- 5
abbrev pub polling : Line → Call
polling line = call_poll_data (column 1 line)

-- 6: the payload is one byte
abbrev pub sending : Line → Call
sending line = call_send (column 2 line) (column 1 line ∷ [])

-- 7
abbrev pub removing : Line → Call
removing line = call_remove_member_connection (column 1 line)

-- 8
abbrev pub breaking : Line → Call
breaking line = call_mark_member_broken (column 1 line)

-- 9
abbrev pub event : Line → Call
event line = call_queue_event (column 1 line) (column 2 line) (column 3 line)
