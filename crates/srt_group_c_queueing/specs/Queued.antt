-- A packet as a host in C queues it: by its numbers.
use Rattle.std.specs.Prelude.{ℕ}
use Rattle.srt_group_model.specs.declared.Data.{Data}

-- its cell and its length are not read: the cell is the lowest free one, the length the payload's
abbrev pub queued : (sequence count message timestamp source : ℕ) → Data
queued sequence count message timestamp source =
    record {
      sequence = sequence;
      count = count;
      message = message;
      timestamp = timestamp;
      source = record { 0 = source };
      cell = 0;
      length = 0;
    }
