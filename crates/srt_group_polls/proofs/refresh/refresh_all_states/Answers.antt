-- `refresh_all_states` meets its contract: what has settled requalifies.
use Rattle.srt_group_polls.specs.Laws.Refresh.{requalifies}
use Rattle.srt_group_polls.proofs.refresh.refresh_all_states.Goals as goal

pub returns : goal.returns
returns c = requalifies _ _ _ _ _ _ c.refresh_pending_states-after.ensures (rw (c.told.ensures.0, c.told.ensures.1) at c.requalify_members.ensures)
