-- The refresh of the members' states: a step at each place, of which one turns the member there if it can be aligned.
use Rattle.std.specs.Prelude.{Bool, ◌&&◌, List, ℕ}
use Rattle.srt_group_model.specs.Tools.{if_true◌then◌else◌}
use Rattle.srt_group_model.specs.State.{Member, is_backup, pending_state, active_state, standby_state, unstable_state}
use Rattle.srt_group_model.specs.Legs.{is_connected, can_send}
use Rattle.srt_group_model.specs.Members.{in_state, has_active_member}

-- ---- definitions: the tests and the states of the model's `settle` and `requalify`

unfoldable pub settles : Member → Bool
settles m = in_state pending_state m && is_connected m.leg

unfoldable pub settled_state : ℕ → ℕ
settled_state mode = if_true is_backup mode then standby_state else active_state

unfoldable pub requalifies : Member → Bool
requalifies m = in_state unstable_state m && (is_connected m.leg && can_send m.leg)

unfoldable pub requalified_state : ℕ → List Member → ℕ
requalified_state mode ms = if_true is_backup mode && has_active_member ms then standby_state else active_state
