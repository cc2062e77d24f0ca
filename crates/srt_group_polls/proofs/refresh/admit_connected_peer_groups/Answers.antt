-- `admit_connected_peer_groups` meets its contract: the members are admitted, then the base and the peer group set.
use Rattle.srt_group_polls.specs.Laws.Refresh.{admits}
use Rattle.srt_group_polls.proofs.refresh.admit_connected_peer_groups.Goals as goal

pub returns : goal.returns
returns c = search admits
