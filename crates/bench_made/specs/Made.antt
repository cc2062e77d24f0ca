-- What the measurements begin with.
use Rattle.std.specs.Prelude.{ℕ}
use Rattle.srt_group_model.specs.Accounts.{no_packets}
use Rattle.srt_group_model.specs.declared.Core.{Core}
use Rattle.srt_group_model.specs.declared.Data.{Data}
use Rattle.srt_group_model.specs.declared.Sending.{Sending}

-- so many members and held packets
abbrev pub core_of : (members pending based : ℕ) → Core
core_of members pending based =
    record {
      mode = 0;
      peer = 0;
      counts = record { members = members; pending = pending; waiting = 0 };
      receiving = record { based = based; base = 0; skipped = 0 };
      visit = record { continuation = 0; round = 0 };
      own = no_packets;
    }

abbrev pub nothing_sent : Sending
nothing_sent = record { numbered = 0; next = 0; carried = 0; carrier = 0; gap = 0 }

abbrev pub data_of : (sequence cell length : ℕ) → Data
data_of sequence cell length =
    record { sequence = sequence; count = 1; message = 0; timestamp = 0; source = record { 0 = sequence }; cell = cell; length = length }
