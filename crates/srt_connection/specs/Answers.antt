-- When a leg gives up: the moment in code, where the definition has its microseconds.
use Rattle.srt_protocol.specs.declared.time.Timestamp.{Timestamp}
use Rattle.std.specs.Prelude.{ℕ, None, Option, Some}
use Rattle.srt_group_model.specs.Legs.{moment}

abbrev pub deadline_of : Option ℕ → Option Timestamp
deadline_of None = None
deadline_of (Some n) = Some (moment n)
