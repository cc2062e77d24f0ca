-- `refresh_pending_states` meets its contract: what is admitted settles.
use Rattle.srt_group_polls.specs.Laws.Refresh.{settles}
use Rattle.srt_group_polls.proofs.refresh.refresh_pending_states.Goals as goal

pub returns : goal.returns
returns c = settles _ _ _ _ _ _ c.admit_connected_peer_groups-after.ensures (rw (c.told.ensures.0, c.told.ensures.1) at c.settle_members.ensures)
