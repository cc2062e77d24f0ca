-- An event poll: the states are refreshed, events collected, and a waiting event or the next packet given. Over every log and budget, and every rest of
-- the state with the numbers of sending that the refresh reads.
use Rattle.std.specs.Prelude.{not, ℕ}
use Rattle.srt_group_model.specs.Tools.{if_true◌then◌else◌, is_empty}
use Rattle.srt_group_model.specs.Run.{Run, refresh_states}
use Rattle.srt_group_model.specs.Delivery.{give_waiting}
use Rattle.srt_group_model.specs.Delivery as model
use Rattle.srt_group_model.specs.Polls.{deliver_next}

-- ---- what is given once the legs were visited

-- a waiting event, else the next packet
unfoldable pub give_next : ℕ → Run → model.Poll
give_next time r = if_true not (is_empty r.state.waiting) then give_waiting r else deliver_next time (refresh_states r)
