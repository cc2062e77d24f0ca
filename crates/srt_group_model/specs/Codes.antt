-- The codes that each call can end with besides 0, in the order in which they are tested, and no other (laws/Codes, `call_code`).
-- Document 01, "Codes from the input" and "Codes from the state".
use Rattle.std.specs.Prelude.{List, [], ◌∷◌, ℕ}
use Rattle.srt_group_model.specs.Tools.{if_true◌then◌else◌}
use Rattle.srt_group_model.specs.State.{is_backup}
use Rattle.srt_group_model.specs.Lent.{Call, call_add_member, call_mark_member_broken, call_remove_member_connection, call_refresh_member_states, call_disconnect, call_poll_event, call_poll_data_bounded, call_send, call_can_send, call_can_send_with_pacing, call_look, call_read_leg, call_queue_data, call_queue_event, looking}
use Rattle.srt_group_model.specs.Guards.{About, about_group, about_time, about_member}

-- of `new`, which is no call on a state
abbrev pub new_codes : List ℕ
new_codes = 2 ∷ 1 ∷ []

-- Of a send, after 23. In Backup 28 or 22 come from a take-over, before 25 and again after a promotion, before 29.
abbrev pub broadcast_codes : List ℕ
broadcast_codes = 24 ∷ 25 ∷ 26 ∷ []

abbrev pub backup_codes : List ℕ
backup_codes = 24 ∷ 28 ∷ 22 ∷ 25 ∷ 27 ∷ 29 ∷ []

-- of a look, by what it is about
unfoldable pub look_codes : About → List ℕ
look_codes about_group = 6 ∷ []
look_codes (about_time time) = 6 ∷ 2 ∷ []
look_codes (about_member id) = 6 ∷ 2 ∷ 3 ∷ []

-- of a call on a group of this mode
unfoldable pub codes_of : (mode : ℕ) → Call → List ℕ
codes_of mode (call_add_member id weight l queue) = 6 ∷ 2 ∷ 20 ∷ 21 ∷ 22 ∷ []
codes_of mode (call_mark_member_broken id) = 6 ∷ 2 ∷ 3 ∷ []
codes_of mode (call_remove_member_connection id) = 6 ∷ 2 ∷ 3 ∷ []
codes_of mode call_refresh_member_states = 6 ∷ []
codes_of mode (call_disconnect time) = 6 ∷ 2 ∷ []
codes_of mode (call_poll_event time) = 5 ∷ 6 ∷ 2 ∷ []
codes_of mode (call_poll_data_bounded time max_events) = 5 ∷ 6 ∷ 2 ∷ []
codes_of mode (call_send time payload) = 5 ∷ 6 ∷ 2 ∷ 4 ∷ (if_true is_backup mode then 30 ∷ 23 ∷ backup_codes else 23 ∷ broadcast_codes)
codes_of mode call_can_send = 6 ∷ []
codes_of mode (call_can_send_with_pacing time) = 6 ∷ 2 ∷ []
codes_of mode (call_look look) = look_codes (looking look).about
codes_of mode (call_read_leg id field n) = 6 ∷ 2 ∷ 3 ∷ 32 ∷ []
codes_of mode (call_queue_data id d payload) = 5 ∷ 6 ∷ 2 ∷ 3 ∷ 4 ∷ 30 ∷ 31 ∷ []
codes_of mode (call_queue_event id kind reason) = 6 ∷ 2 ∷ 3 ∷ 31 ∷ []
