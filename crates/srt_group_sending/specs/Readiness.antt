-- Readiness to send, over the lent table of members.
use Rattle.srt_protocol.specs.declared.time.Timestamp.{Timestamp}
use Rattle.std.specs.Prelude.{Bool, ◌&&◌, ◌||◌, ℕ, eqb, None, Option, Some}
use Rattle.srt_group_model.specs.Tools.{if_true◌then◌else◌}
use Rattle.srt_group_model.specs.State.{Member, active_state, standby_state}
use Rattle.srt_group_model.specs.Legs.{time_until_send}
use Rattle.srt_group_model.specs.Members.{in_state, is_active}
use Rattle.srt_group_model.specs.Backup.{ready_to_send}

-- ---- definitions

abbrev pub pacing_in : Option Timestamp → Option ℕ
pacing_in None = None
pacing_in (Some time) = Some time.0

-- active, with room in its window and, with a time, not held back by pacing
abbrev pub sends_now : Option ℕ → Member → Bool
sends_now time m = is_active m && ready_to_send time m.leg

-- Active or Standby
unfoldable pub may_carry : ℕ → Bool
may_carry state = eqb state active_state || eqb state standby_state

-- how long until a send of a member that is Active or Standby: of these waits the model's `least_time` is the least
unfoldable pub wait_of : ℕ → Member → Option ℕ
wait_of time m = if_true in_state active_state m || in_state standby_state m then Some (time_until_send time m.leg) else None
