-- The record that the measurement makes: so many members, nothing held, nothing sent.
use Rattle.std.specs.Prelude.{ℕ}
use Rattle.srt_group.specs.declared.Group.{Group}
use Rattle.bench_made.specs.Made.{core_of, nothing_sent}

abbrev pub group_of : ℕ → Group
group_of members =
    record {
      identity = record { id = 1073741824; length = 0 };
      core = core_of members 0 0;
      sending = nothing_sent;
      ring = record { start = 0; length = 0 };
    }
